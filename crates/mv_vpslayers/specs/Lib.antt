pub mod Layers
pub mod Dimensions
pub mod Dependencies
pub mod DependencyTypes
