pub mod Bumping
pub mod Instances
pub mod Kept
pub mod Runs
pub mod Sorts
pub mod Tops
