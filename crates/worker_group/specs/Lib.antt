pub mod Acts
pub mod InHand
pub mod InHandInside
pub mod Service
pub mod ServiceInside
