pub mod Escapes
pub mod Framing
pub mod Head
pub mod Rules
pub mod Shown
pub mod Units
