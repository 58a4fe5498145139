mod CauseExamples
pub mod Acked
pub mod Grown
pub mod Quiet
pub mod Fitting
pub mod Answering
pub mod Accepting
pub mod Stepping
pub mod Timely
mod Examples
pub mod Recipients
pub mod Putting
pub mod Waiting
pub mod Saying
pub mod Retaining
pub mod Handing
pub mod Lasting
