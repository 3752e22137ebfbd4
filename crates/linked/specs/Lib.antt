pub mod Links
pub mod Shape
