pub mod Books
pub mod Carries
pub mod GoesOnInside
pub mod Pairing
pub mod Rests
pub mod Turns
