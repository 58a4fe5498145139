pub mod Fault
pub mod Levels
pub mod Topics
pub mod Matching
pub mod Table
