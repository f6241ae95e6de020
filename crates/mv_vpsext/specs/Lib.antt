pub mod Args
pub mod Profiles
pub mod Formats
pub mod Pictures
pub mod ExtEnding
pub mod VpsExt
pub mod Derived
