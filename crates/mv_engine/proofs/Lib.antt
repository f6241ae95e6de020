pub mod Endings
pub mod Fed
pub mod Handed
pub mod Settled
pub mod Written
