pub mod Addresses
pub mod AskingInside
pub mod CommandLines
pub mod CommandLinesInside
pub mod Dialling
pub mod Moments
pub mod SeenClock
