pub mod MemLog
pub mod MemSink
pub mod MemStore
