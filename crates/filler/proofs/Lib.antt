pub mod Lateness
pub mod LastState
pub mod Calls
