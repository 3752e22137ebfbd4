-- What the run of a schedule asks for.
-- Assumes nothing.
use Rattle.std.specs.Prelude.{ℕ, ◌≤◌, ◌<◌, List, length}
use Rattle.model.specs.Limits.{most_items}
use Rattle.model.specs.CaseFile.{records, case_of, item_count}

-- So many items have a place in a slice.
pub record ItemsFit (count : ℕ) (slice : List ℕ) : Type 0 where
  pub few : count ≤ most_items
  pub room : count ≤ length slice

-- Each record of the case is given a value, and a slice has room for the case's items.
pub record BlocksReady (bytes givens slice : List ℕ) : Type 0 where
  pub all_given : records bytes < length givens
  pub room : item_count (case_of bytes) ≤ length slice
