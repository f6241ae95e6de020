pub mod Across
pub mod Agreeing
pub mod Fields
pub mod Filling
pub mod Headers
pub mod Places
