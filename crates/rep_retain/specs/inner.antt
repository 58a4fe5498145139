-- What proofs stand on and no public clause cites.
pub mod Tables
pub mod Refusals
pub mod Steps
