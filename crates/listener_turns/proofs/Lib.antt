mod ChildrenLemmas
mod FoldedLemmas
mod HeldLemmas
pub mod ListenerLemmas
pub mod LookLemmas
mod ManyLemmas
mod TakenLemmas
