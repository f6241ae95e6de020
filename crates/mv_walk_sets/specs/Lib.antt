pub mod InForce
pub mod Roles
pub mod Readings
pub mod Steps
pub mod Taken
pub mod Cuts
