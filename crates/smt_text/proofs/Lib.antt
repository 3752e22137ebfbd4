pub mod TableRows
pub mod Rows
pub mod Assertions
pub mod Answer
