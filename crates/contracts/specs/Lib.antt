pub mod Call
pub mod Promises
pub mod Cheats
pub mod Samples
