mod Examples
pub mod Growth
pub mod Lines
pub mod Together
