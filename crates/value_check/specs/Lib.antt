pub mod Rows
pub mod Asking
pub mod Breaking
pub mod Walked
