pub mod Changes
pub mod Layout
pub mod Lending
pub mod LendingInside
pub mod Slots
pub mod TableInside
