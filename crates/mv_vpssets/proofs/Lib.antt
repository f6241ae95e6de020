pub mod Bounds
pub mod SetLayerLaws
pub mod SetSteps
