pub mod AmongLemmas
pub mod TableLemmas
