pub mod Sharing
pub mod DimensionLaws
