pub mod Faults
pub mod Calls
pub mod Legal
pub mod Passes
pub mod Calling
pub mod Closing
pub mod inner
pub mod Tallies
