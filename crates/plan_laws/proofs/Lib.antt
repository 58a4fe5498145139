mod Examples
pub mod Sessions
pub mod Kept
pub mod Sound
pub mod Retained
pub mod Written
pub mod Following
pub mod Rows
pub mod Serving
pub mod Steps
pub mod BoundDrafts
pub mod BoundRows
pub mod BoundBehind
