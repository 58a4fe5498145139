pub mod Digests
pub mod WellMade
pub mod Spelling
pub mod Reading
pub mod inner
