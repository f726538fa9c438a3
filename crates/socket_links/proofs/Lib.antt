pub mod EventLemmas
pub mod FillLemmas
pub mod GivingLemmas
