pub mod Apart
pub mod Mapping
pub mod inner
