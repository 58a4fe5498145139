-- What proofs stand on and no public clause cites.
pub mod Handling
pub mod Intakes
pub mod Queue
pub mod Room
pub mod Rows
pub mod Work
