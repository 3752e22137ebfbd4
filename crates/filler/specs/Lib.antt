pub mod Lateness
pub mod Ready
pub mod Promises
