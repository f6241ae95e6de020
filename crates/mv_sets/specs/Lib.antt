pub mod Formats
pub mod Numbered
pub mod Resolved
pub mod Sets
pub mod Store
pub mod StoreValue
pub mod Tables
