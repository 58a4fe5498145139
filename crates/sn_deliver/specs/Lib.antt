pub mod Acknowledging
pub mod Serving
pub mod Steps
pub mod Waking
pub mod inner
