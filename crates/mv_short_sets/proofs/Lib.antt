pub mod DeltaLaws
pub mod DeltaSteps
pub mod SetLaws
pub mod SetSizes
