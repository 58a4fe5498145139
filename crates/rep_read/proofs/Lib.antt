pub mod Laws
pub mod Many
pub mod Tables
pub mod Fields
pub mod Parts
pub mod Changes
pub mod Operations
