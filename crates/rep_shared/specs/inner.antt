-- What proofs stand on and no public clause cites.
pub mod Rows
pub mod Tables
pub mod Replays
