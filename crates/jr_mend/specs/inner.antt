-- What proofs stand on and no public clause cites.
pub mod Naming
pub mod Stopping
