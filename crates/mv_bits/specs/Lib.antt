pub mod Cursor
pub mod Ending
pub mod inner
