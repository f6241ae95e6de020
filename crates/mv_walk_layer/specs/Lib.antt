pub mod LatestOf
pub mod LayerValue
pub mod Standing
pub mod Sums
