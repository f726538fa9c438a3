pub mod Closing
pub mod Did
pub mod Letting
pub mod Orders
pub mod Rounds
pub mod Taking
pub mod Times
