pub mod Opening
pub mod LayerSets
pub mod Timing
pub mod Base
pub mod Vps
pub mod Formats
pub mod Getters
