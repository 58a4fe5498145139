pub mod Occasions
pub mod Excuses
pub mod Drives
pub mod Gateways
pub mod Event
pub mod Together
