pub mod Tables
pub mod Interests
pub mod inner
