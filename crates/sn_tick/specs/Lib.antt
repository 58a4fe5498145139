pub mod Due
pub mod Expiry
pub mod Rest
pub mod Ticking
pub mod inner
