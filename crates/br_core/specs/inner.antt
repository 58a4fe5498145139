-- What proofs and private functions stand on and no public clause cites.
pub mod Parts
pub mod Works
