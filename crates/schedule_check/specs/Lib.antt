pub mod InputValues
pub mod Ready
pub mod Refusals
