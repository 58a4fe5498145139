pub mod Covered
pub mod Completing
pub mod Finding
pub mod Reaching
pub mod Left
pub mod Examples
