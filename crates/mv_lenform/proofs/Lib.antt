pub mod Bodies
pub mod Carried
pub mod Feeding
pub mod Lengths
pub mod Pieces
pub mod Round
pub mod Stands
pub mod Zeros
