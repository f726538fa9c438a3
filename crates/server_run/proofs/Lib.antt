pub mod ConfigLemmas
pub mod FormLemmas
pub mod HeardLemmas
pub mod InvocationLemmas
pub mod ServeLemmas
