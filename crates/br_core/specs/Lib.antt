pub mod Begins
pub mod Sides
pub mod Lanes
pub mod Commands
pub mod Steps
pub mod Runs
pub mod inner
