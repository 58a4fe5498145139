pub mod BoundUp
pub mod KeepsWell
