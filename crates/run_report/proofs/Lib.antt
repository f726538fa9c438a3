pub mod CountLemmas
pub mod EndingLemmas
pub mod ExitStatusLemmas
pub mod ReportLemmas
