pub mod Bytes
pub mod Found
pub mod Scan
pub mod Spans
pub mod Stages
