pub mod Digits
pub mod Numbers
pub mod Rows
pub mod Answer
pub mod Bridge
