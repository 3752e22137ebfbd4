-- What looking through a schedule asks for.
-- Assumes nothing.
use Rattle.std.specs.Prelude.{ℕ, ◌≤◌, ◌<◌, List, length}
use Rattle.model.specs.Limits.{most_blocks, most_schedule_numbers}
use Rattle.model.specs.CaseFile.{thread_count}
use Rattle.schedule_check.specs.InputValues.{LinesCounted}

-- A thread of the case, and how many numbers of a schedule are used before it.
pub record InputsReady (bytes : List ℕ) (t start : ℕ) : Type 0 where
  pub thread : t < thread_count bytes
  pub few : start ≤ most_schedule_numbers

-- Not more block lengths than a case has blocks, and how many lines each thread has.
pub record SumsReady (bytes lengths lines : List ℕ) : Type 0 where
  pub few : length lengths ≤ most_blocks
  pub counted : LinesCounted bytes lines
