pub mod Events
pub mod Labels
pub mod Numbers
pub mod Words
