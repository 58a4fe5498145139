pub mod Meeting
pub mod Below
pub mod Mapped
