mod DrawLaws
mod GiveLaws
mod IdleLaws
mod KeptLaws
mod MachineLemmas
mod PastLemmas
mod PermitLaws
pub mod RecordLemmas
mod ShareLaws
mod SumLemmas
mod TieLemmas
mod TrailLemmas
mod TurnLaws
mod WordLemmas
mod WorkerLaws
