pub mod Tables
pub mod Refusals
pub mod Staging
pub mod inner
pub mod Asides
