-- What proofs stand on and no public clause cites.
pub mod Commands
pub mod Rows
