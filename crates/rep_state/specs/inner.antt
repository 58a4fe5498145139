-- What proofs stand on and no public clause cites.
pub mod Groups
pub mod Interests
pub mod Staging
pub mod Tables
