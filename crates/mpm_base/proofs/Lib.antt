pub mod BeforeShutLemmas
pub mod DigitLemmas
pub mod OutcomeLemmas
pub mod PartLemmas
