pub mod Links
pub mod ReachCounts
