pub mod Begun
pub mod Carrying
pub mod Found
pub mod LenScan
pub mod Moves
pub mod Reader
pub mod Stages
pub mod Tests
