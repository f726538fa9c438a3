pub mod Texts
pub mod Toy
