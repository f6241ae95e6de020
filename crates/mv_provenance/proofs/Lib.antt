mod Growing
mod Joined
