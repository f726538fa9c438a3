pub mod Ends
pub mod EndsInside
