pub mod Bodies
pub mod Faults
pub mod Grammar
pub mod Headers
pub mod Text
pub mod inner
