pub mod Entries
pub mod Addresses
pub mod TimerPlaces
