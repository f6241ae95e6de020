pub mod Appends
mod Handing
mod Supply
pub mod Taking
