pub mod HostLemmas
pub mod MarkLemmas
