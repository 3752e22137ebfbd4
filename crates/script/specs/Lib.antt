pub mod Assertions
pub mod Text
