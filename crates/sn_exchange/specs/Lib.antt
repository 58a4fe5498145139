pub mod Delivery
pub mod Exchanges
pub mod Following
pub mod Forms
pub mod Resending
