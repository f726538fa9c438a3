pub mod ConfigLemmas
pub mod FileLemmas
