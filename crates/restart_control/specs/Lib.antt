pub mod Reload
pub mod ReloadInside
