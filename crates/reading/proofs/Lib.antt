pub mod Words
pub mod Numbers
pub mod Terms
pub mod Scripts
pub mod Examples
