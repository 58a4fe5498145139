pub mod Publishing
pub mod Recipients
pub mod Retaining
