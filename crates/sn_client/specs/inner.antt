-- What proofs stand on and no public clause cites.
pub mod Asking
pub mod Exchanges
pub mod Talking
