pub mod MediaType
pub mod PairLaws
pub mod PairsInside
pub mod Places
pub mod TablesInside
