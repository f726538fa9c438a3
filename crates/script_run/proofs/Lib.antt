pub mod HeardLemmas
pub mod PlayedLemmas
pub mod ScriptLemmas
