pub mod ChosenHost
pub mod Exact
pub mod Grounds
pub mod Outcomes
pub mod Undisturbed
pub mod Unhurried
