mod Behind
pub mod Beginning
mod Clients
mod Counting
pub mod Drafting
mod Ending
mod Examples
pub mod Expiring
pub mod Keeping
mod Locally
mod Lowering
mod Pending
mod Receiving
mod Remaining
pub mod Settling
mod Stepping
mod Timing
