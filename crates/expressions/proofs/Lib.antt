pub mod Guards
pub mod Expressions
pub mod Facts
pub mod Beside
