pub mod EntryLemmas
pub mod FoldLemmas
pub mod PlaceLemmas
mod TextLemmas
pub mod ToyLemmas
