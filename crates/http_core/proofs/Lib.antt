pub mod HostLemmas
pub mod TargetLemmas
pub mod WritingLemmas
pub mod ConditionLemmas
