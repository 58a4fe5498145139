pub mod Framing
pub mod Numbers
pub mod ReadBodies
pub mod Refusals
pub mod Worked
