pub mod Breaking
pub mod Memories
pub mod Expressions
pub mod Eights
