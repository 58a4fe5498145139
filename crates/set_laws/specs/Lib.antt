pub mod Exceptions
pub mod Joins
