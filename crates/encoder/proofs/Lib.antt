-- Rows along a thread's lines
pub mod Walking
pub mod Lines
-- Rows by thread, block and item, and the whole table
pub mod Series
pub mod Parts
pub mod Counts
pub mod WholeTable
