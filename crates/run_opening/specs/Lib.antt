pub mod Calls
pub mod Configured
pub mod ConfiguredInside
pub mod Refusals
pub mod RefusalsInside
pub mod Sites
