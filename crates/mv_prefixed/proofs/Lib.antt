pub mod Forms
pub mod Fronts
pub mod Packed
pub mod ReadLaws
pub mod Spelling
