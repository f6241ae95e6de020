pub mod Deltas
pub mod ShortSet
pub mod ShortSetValue
