mod Passing
mod Room
pub mod Leaving
