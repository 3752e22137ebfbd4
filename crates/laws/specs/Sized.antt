-- Check 1 passed: what the later checks require of a case's length.
-- Assumes nothing.
use Rattle.std.specs.Prelude.{◌≡◌, ℕ, ◌+◌, ◌*◌, ◌≤◌, List, length}
use Rattle.model.specs.Limits.{most_records, header_bytes, record_bytes}
use Rattle.model.specs.CaseFile.{records}

-- The records are there, and are few.
pub record Sized (bytes : List ℕ) : Type 0 where
  pub size : length bytes ≡ header_bytes + record_bytes * records bytes
  pub few_records : records bytes ≤ most_records
