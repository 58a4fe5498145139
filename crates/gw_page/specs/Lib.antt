pub mod Answers
pub mod Clients
pub mod Expositions
pub mod Lines
pub mod Logs
pub mod Requests
pub mod Texts
