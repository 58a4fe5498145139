pub mod Adding
pub mod Calling
pub mod inner
