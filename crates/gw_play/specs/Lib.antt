pub mod Printing
pub mod Playing
pub mod Sessions
pub mod Texts
pub mod inner
