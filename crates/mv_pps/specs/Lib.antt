pub mod Opening
pub mod Quantization
pub mod Tools
pub mod Tiles
pub mod Deblocking
pub mod Extension
pub mod Pps
