pub mod FoldLemmas
pub mod FoundLemmas
pub mod GoesOnLemmas
pub mod LeavesLemmas
pub mod MadeLemmas
pub mod PairingLemmas
pub mod ThenLemmas
pub mod TurnLemmas
