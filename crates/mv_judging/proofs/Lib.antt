pub mod Extracts
pub mod Judged
pub mod Seen
pub mod Streams
