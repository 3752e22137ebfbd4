pub mod LineOrder
pub mod ThreadOrder
