pub mod Held
pub mod CopyChains
