pub mod Asked
pub mod Matched
pub mod RefSet
pub mod Refused
pub mod Resolving
pub mod Standing
