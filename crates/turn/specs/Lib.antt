pub mod TurnState
pub mod Promises
