-- Lines, copies, sums, rows: small laws that several of the others use
pub mod Sums
-- One thread, one line, one block
pub mod Order
pub mod Step
pub mod Block
-- All blocks of a run
pub mod Blocks
pub mod Values
pub mod Breaks
-- Runs, their traces and the machine's answer
pub mod Traces
pub mod Runs
pub mod Courses
pub mod Endings
-- Assignments and schedules as lists of numbers
pub mod Numbers
pub mod Inputs
pub mod Filling
pub mod Bounds
-- The rows of the table
pub mod ValueRows
pub mod Rows
pub mod FirstFailing
-- Demand 3
pub mod WellFormed
pub mod Replies
pub mod Claims
pub mod RunEnds
pub mod Keeping
pub mod Late
pub mod Moved
pub mod RunReplies
pub mod FillReplies
pub mod Demand3
-- The definitions held beside document 01
pub mod KindByKind
pub mod Computing
pub mod NoLines
pub mod EverySchedule
pub mod CaseA
pub mod CaseBytes
pub mod Examples
pub mod StopExamples
pub mod HolderExamples
pub mod StayExamples
pub mod FillExamples
pub mod Refusals
pub mod Conventions
