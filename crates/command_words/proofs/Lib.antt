pub mod FormLemmas
pub mod InvocationLemmas
pub mod ShownLemmas
