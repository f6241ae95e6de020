pub mod Clean
pub mod HeaderBytes
pub mod Places
pub mod Steps
pub mod Valid
pub mod Written
