-- What proofs stand on and no public clause cites.
pub mod Joining
pub mod Known
pub mod Measures
