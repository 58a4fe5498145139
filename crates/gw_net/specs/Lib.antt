pub mod Faults
pub mod Messages
pub mod Streams
pub mod Pieces
pub mod Writing
pub mod inner
