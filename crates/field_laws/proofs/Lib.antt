mod Examples
pub mod OwnPlans
pub mod BoundRuns
pub mod Takes
pub mod InJournals
pub mod Settling
pub mod Rooms
pub mod Determined
pub mod SameRows
pub mod OneByOne
pub mod Replaying
pub mod Stops
pub mod Writing
pub mod Catching
pub mod Staying
pub mod Remaining
