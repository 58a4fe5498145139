-- What proofs stand on and no public clause cites.
pub mod Entries
pub mod Mail
pub mod Numbers
