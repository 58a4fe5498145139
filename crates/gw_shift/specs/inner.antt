-- What proofs stand on and no public clause cites.
pub mod Calling
pub mod Closing
pub mod Glances
pub mod Legal
pub mod Passes
pub mod Rooms
