pub mod Parts
pub mod Heads
pub mod RowHeads
pub mod GoalText
