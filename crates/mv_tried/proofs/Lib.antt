pub mod Cases
pub mod Finer
pub mod Heads
pub mod Pictures
pub mod Roles
pub mod Segments
pub mod Units
pub mod Verdicts
