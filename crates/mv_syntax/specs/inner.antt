-- What only proofs need.
pub mod Ending
pub mod Filling
pub mod PayloadReader
pub mod Reader
pub mod Turns
pub mod Writer
