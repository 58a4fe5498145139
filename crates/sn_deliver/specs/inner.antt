-- What proofs stand on and no public clause cites.
pub mod Parts
