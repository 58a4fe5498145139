pub mod Standing
pub mod Taken
