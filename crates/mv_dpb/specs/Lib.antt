pub mod Buffer
pub mod Leaving
pub mod OrderValue
pub mod SetOrder
pub mod Stored
pub mod Waiting
pub mod Waits
