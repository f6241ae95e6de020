pub mod Event
pub mod Extract
pub mod Facts
pub mod Format
pub mod Judge
