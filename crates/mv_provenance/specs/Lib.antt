pub mod Formats
pub mod Lines
pub mod Making
pub mod Message
pub mod Showing
