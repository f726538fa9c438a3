pub mod Invocations
pub mod InvocationsInside
