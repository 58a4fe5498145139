pub mod Bodies
pub mod Faults
pub mod FlagBits
pub mod Grammar
pub mod Types
pub mod inner
