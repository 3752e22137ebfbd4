pub mod InputLoops
pub mod Values
pub mod Sums
pub mod Refusals
