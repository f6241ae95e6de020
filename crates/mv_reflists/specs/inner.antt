-- What only proofs need.
pub mod Listed
pub mod Parts
