pub mod Places
pub mod Folding
pub mod inner
