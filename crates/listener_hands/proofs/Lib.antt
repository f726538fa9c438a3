pub mod ClosingLemmas
pub mod LineLemmas
pub mod OpeningLemmas
