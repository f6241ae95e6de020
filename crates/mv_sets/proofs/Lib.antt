pub mod Numbers
pub mod Rooms
pub mod StoreLaws
pub mod TableLaws
pub mod Valid
