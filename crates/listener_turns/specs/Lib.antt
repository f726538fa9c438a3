pub mod Children
pub mod Credits
pub mod Folds
pub mod Holds
pub mod Looks
pub mod PartsInside
pub mod Signals
