pub mod Handling
pub mod Reads
