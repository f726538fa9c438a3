mod ListLemmas
pub mod PickLemmas
