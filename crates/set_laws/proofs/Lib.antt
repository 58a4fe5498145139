pub mod Order
pub mod Exceptions
mod Examples
