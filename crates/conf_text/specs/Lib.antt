pub mod First
pub mod Line
pub mod Parts
pub mod Words
