pub mod Calm
pub mod Idle
mod Resting
mod Stretched
