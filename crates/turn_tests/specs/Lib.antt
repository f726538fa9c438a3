pub mod Passes
pub mod Props
pub mod Taking
