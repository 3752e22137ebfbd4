pub mod WalkBack
pub mod Sixes
pub mod NotedRows
pub mod Previous
pub mod Noting
pub mod CopyHeads
