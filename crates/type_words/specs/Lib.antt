pub mod TypeLaws
pub mod TypeWords
