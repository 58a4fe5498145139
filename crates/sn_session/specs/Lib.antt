pub mod Messages
pub mod Wills
pub mod Session
pub mod inner
