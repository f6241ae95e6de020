pub mod Checking
pub mod Headline
pub mod Numbers
pub mod Telling
pub mod Two
