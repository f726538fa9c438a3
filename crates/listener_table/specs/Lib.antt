pub mod Among
pub mod Laws
pub mod Table
