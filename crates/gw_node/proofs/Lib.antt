pub mod Occurring
pub mod Keeping
pub mod Calling
pub mod Between
pub mod Refused
pub mod Proper
pub mod Roomy
pub mod Taken
pub mod Started
mod Beginning
pub mod Reopened
pub mod Failing
pub mod Held
pub mod Splits
pub mod Standing
pub mod Leading
pub mod Writes
mod Each
mod Unwritten
mod Finishing
pub mod Rows
pub mod Together
mod Resting
