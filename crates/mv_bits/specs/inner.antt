-- What only proofs need.
pub mod Tail
pub mod Window
pub mod Written
