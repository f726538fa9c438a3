pub mod Played
pub mod PlayedInside
pub mod ScriptRefusals
pub mod Scripts
pub mod ScriptsInside
