pub mod LineKinds
pub mod Traces
pub mod Steps
pub mod Blocks
