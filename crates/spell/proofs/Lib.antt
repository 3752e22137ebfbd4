pub mod Spelling
pub mod Places
pub mod Closing
pub mod Atoms
