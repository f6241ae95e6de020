pub mod Subs
pub mod Sets
pub mod Bounds
