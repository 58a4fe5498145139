-- What proofs stand on and no public clause cites.
pub mod Disk
pub mod Faults
pub mod Journals
pub mod Opening
pub mod Records
