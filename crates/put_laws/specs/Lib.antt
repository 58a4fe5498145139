pub mod Causes
pub mod Puts
pub mod Retained
