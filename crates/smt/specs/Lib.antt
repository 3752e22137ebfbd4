pub mod Term
pub mod Script
pub mod Spelling
pub mod Reader
