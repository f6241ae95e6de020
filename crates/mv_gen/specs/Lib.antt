pub mod Contexts
pub mod Draws
pub mod HeaderBytes
pub mod Headers
pub mod ParameterSets
pub mod Segments
pub mod Units
pub mod Writing
