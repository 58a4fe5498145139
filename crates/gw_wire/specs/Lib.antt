pub mod Addresses
pub mod Clock
pub mod Arrivals
pub mod Outages
pub mod inner
