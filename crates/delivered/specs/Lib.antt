pub mod ReadOff
pub mod Delivered
