pub mod Host
pub mod MarkInside
