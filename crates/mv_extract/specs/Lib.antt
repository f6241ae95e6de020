pub mod Accepting
pub mod Answers
pub mod Commutes
pub mod Errors
pub mod Extractor
pub mod Task
pub mod Text
