pub mod OutputSets
pub mod DpbSizes
pub mod Sets
