pub mod Histories
pub mod IdleWords
pub mod Ledgers
pub mod Pasts
pub mod Steps
pub mod Tie
pub mod Trails
pub mod Views
