pub mod Counting
pub mod Holding
pub mod Stepping
pub mod Telling
pub mod Sums
pub mod Soundness
