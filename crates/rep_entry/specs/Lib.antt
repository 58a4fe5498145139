pub mod Spans
pub mod Entries
pub mod Staging
pub mod Applied
pub mod Interests
pub mod inner
