pub mod HostLemmas
pub mod LoadLemmas
pub mod OrderLemmas
pub mod PathLemmas
pub mod ResourceLemmas
pub mod RootLemmas
