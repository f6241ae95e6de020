pub mod Driven
pub mod Meaning
pub mod Reader
pub mod Writing
pub mod inner
