pub mod Deciding
pub mod WalkBack
pub mod Blocks
