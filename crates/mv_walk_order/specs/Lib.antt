pub mod OrderValues
pub mod OrderSteps
pub mod Orders
pub mod Queue
