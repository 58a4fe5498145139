pub mod Fronts
pub mod Sending
pub mod Joining
pub mod Digests
pub mod Cutting
