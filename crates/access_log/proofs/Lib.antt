pub mod EscapeLemmas
pub mod SplitLemmas
pub mod TimeLemmas
pub mod WordLemmas
pub mod ReadingLemmas
pub mod RequestLineLemmas
pub mod TextLemmas
pub mod PlainLemmas
