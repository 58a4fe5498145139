pub mod Glimpses
pub mod Glancing
pub mod Knowing
