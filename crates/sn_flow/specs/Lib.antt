pub mod Accept
pub mod Connection
pub mod WillUpdate
pub mod Wills
