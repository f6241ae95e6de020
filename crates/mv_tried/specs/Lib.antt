pub mod Decoded
pub mod Finer
pub mod Segments
pub mod Tried
