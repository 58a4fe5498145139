-- What proofs stand on and no public clause cites.
pub mod Calling
pub mod Rows
pub mod Weights
