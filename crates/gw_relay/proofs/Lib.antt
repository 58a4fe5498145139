pub mod Fields
pub mod Covering
