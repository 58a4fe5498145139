pub mod Mending
pub mod inner
