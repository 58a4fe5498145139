pub mod Commands
pub mod Octets
pub mod Rows
pub mod Scripts
pub mod inner
