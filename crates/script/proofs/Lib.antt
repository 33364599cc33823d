pub mod Names
pub mod Saying
pub mod Samples
