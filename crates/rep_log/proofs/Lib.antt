pub mod Logging
pub mod Acknowledged
pub mod Sorting
pub mod Copying
pub mod Greatest
pub mod Ranges
