pub mod HistoryLemmas
pub mod LookupLemmas
pub mod NamesLemmas
pub mod PlaceLemmas
pub mod SlotLemmas
