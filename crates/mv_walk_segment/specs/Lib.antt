pub mod Fault
pub mod Open
pub mod OpenValue
pub mod Serving
pub mod Taken
