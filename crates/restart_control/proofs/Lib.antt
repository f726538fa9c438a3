pub mod HostLemmas
pub mod ReloadLemmas
