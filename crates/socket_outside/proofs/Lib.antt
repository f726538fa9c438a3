pub mod DialLemmas
pub mod HearLemmas
pub mod WaitLemmas
