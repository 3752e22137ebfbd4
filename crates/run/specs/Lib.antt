pub mod Found
pub mod RunState
pub mod Promises
