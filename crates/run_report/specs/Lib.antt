pub mod Endings
pub mod EndingsInside
pub mod Report
pub mod Texts
pub mod Written
