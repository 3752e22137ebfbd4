pub mod Variables
pub mod Nesting
pub mod Going
pub mod Links
