pub mod Entries
pub mod Filed
pub mod RingsInside
pub mod Waiting
