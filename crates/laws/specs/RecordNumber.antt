-- What the number of a record is.
-- Assumes nothing.
use Rattle.std.specs.Prelude.{ℕ, ◌≤◌, ◌<◌}

-- k is one of the numbers from 1 to R.
pub record RecordNumber (R k : ℕ) : Type 0 where
  pub some : 0 < k
  pub low : k ≤ R
