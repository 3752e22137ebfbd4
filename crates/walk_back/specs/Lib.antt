pub mod Deciding
pub mod Blocks
