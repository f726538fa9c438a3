pub mod Carriers
pub mod Looking
pub mod LookingInside
pub mod Resting
pub mod StepsInside
pub mod Words
