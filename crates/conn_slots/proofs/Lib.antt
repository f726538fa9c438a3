pub mod EntryLemmas
pub mod FreshLemmas
pub mod LawLemmas
pub mod LiveLemmas
pub mod MapLemmas
pub mod VacantLemmas
