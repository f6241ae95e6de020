pub mod Faults
pub mod Output
pub mod Reading
pub mod Widths
pub mod inner
