pub mod Cuts
pub mod Agreement
pub mod Rule
pub mod Least
pub mod Examples
pub mod Decides
