pub mod Calls
pub mod Files
pub mod FilesInside
pub mod History
pub mod HistoryInside
pub mod PlainLink
pub mod PlainStore
pub mod ScriptLink
