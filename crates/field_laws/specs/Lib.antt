pub mod OwnPlans
pub mod Takes
pub mod Stored
pub mod Settings
