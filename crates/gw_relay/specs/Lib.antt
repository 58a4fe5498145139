pub mod News
pub mod Going
pub mod Fields
pub mod Pausing
pub mod Sizes
