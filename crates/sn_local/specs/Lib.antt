pub mod Advertising
pub mod Lifetimes
pub mod Bindings
pub mod Locals
pub mod Timers
pub mod WillDialogs
pub mod Faults
pub mod Seen
