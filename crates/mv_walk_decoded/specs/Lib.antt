pub mod Asked
pub mod Actives
pub mod Making
pub mod Made
pub mod Decided
