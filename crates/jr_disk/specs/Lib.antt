pub mod Disk
pub mod Memory
pub mod Once
