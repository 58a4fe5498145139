pub mod Fault
pub mod Tables
pub mod Topics
pub mod Subscriptions
pub mod Received
pub mod Levels
pub mod inner
