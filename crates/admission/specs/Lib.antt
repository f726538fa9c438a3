pub mod Admission
pub mod Picked
pub mod PickedInside
