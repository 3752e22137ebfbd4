pub mod Formulas
pub mod ReadTexts
pub mod Lines
pub mod Rows
pub mod Blocks
pub mod Text
