pub mod ClosingInside
pub mod EndsInside
pub mod PartsInside
pub mod TableInside
