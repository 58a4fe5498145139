pub mod Deltas
pub mod Spelling
pub mod Making
pub mod Splitting
pub mod Reading
pub mod Formats
pub mod inner
