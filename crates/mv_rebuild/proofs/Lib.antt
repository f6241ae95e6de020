mod Texts
mod Values
