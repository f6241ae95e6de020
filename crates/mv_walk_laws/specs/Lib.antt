pub mod Parts
pub mod Rest
pub mod Sizes
pub mod Streams
