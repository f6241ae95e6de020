pub mod HrdSteps
pub mod Aligned
pub mod Extending
pub mod FormatSteps
pub mod Getting
pub mod Whole
