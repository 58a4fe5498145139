pub mod Accepted
pub mod Asked
pub mod Stepping
pub mod Acknowledged
pub mod Promised
pub mod Received
