-- Tests, counts, ranges, bounds and writes
pub mod Views
pub mod Counting
pub mod Ranges
pub mod Below
pub mod Writing
-- Chains of records
pub mod Chains
pub mod Reached
-- Accepted cases
pub mod Accepted
pub mod Lines
pub mod Rules
pub mod Following
pub mod RecordSums
-- How large replies can be
pub mod Sizes
pub mod Schedules
-- Calls on a case, and the numbers of rows
pub mod OnCase
pub mod RowNumbers
-- Lines, copies and rows
pub mod Unrun
pub mod Breaking
pub mod AllLines
pub mod LineFound
pub mod Copies
pub mod ForwardWalk
pub mod HandedOn
pub mod Memory
pub mod Passing
pub mod Walk
pub mod AllHold
pub mod WithoutEights
pub mod StayRows
pub mod OrderRows
pub mod RowReads
