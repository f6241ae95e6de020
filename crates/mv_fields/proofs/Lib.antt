pub mod Appending
pub mod Payloads
pub mod Shared
pub mod Signed
pub mod WidthLaws
