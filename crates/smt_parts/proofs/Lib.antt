pub mod Sources
pub mod Shape
pub mod Declarations
pub mod Order
