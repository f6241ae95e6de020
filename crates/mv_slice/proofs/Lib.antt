pub mod Alignment
pub mod Counting
pub mod HeaderSizes
pub mod Heads
pub mod Peeking
pub mod Totals
