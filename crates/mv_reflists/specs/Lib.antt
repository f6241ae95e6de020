pub mod Answers
pub mod InterLayer
pub mod Lists
pub mod Rules
pub mod Segment
pub mod Sizes
pub mod Stands
pub mod inner
