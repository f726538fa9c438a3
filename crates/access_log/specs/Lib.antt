pub mod RequestLine
pub mod EscapedLine
pub mod PlainInside
pub mod LogTime
pub mod LogLine
pub mod LogReading
