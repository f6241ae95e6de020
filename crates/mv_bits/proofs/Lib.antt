pub mod Codes
pub mod Endings
pub mod LastSet
pub mod Readings
pub mod Tails
pub mod Windows
pub mod Written
