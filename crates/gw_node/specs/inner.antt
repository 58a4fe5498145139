-- What proofs stand on and no public clause cites.
pub mod Ahead
pub mod Handling
pub mod Opening
pub mod Resting
pub mod Rows
pub mod Writing
