pub mod Agreement
pub mod LayerState
pub mod States
pub mod StatesValue
pub mod StateSteps
pub mod Tracker
pub mod TrackerValue
pub mod Tracking
