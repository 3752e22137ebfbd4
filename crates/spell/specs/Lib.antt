pub mod Spelt
pub mod Atoms
