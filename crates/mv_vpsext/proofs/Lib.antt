pub mod Numbering
pub mod Reordering
pub mod Bounds
pub mod Extensions
pub mod Orderly
