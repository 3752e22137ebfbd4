-- What is there to be read: what the calls that read a part of a case require.
-- Assumes nothing.
use Rattle.std.specs.Prelude.{ℕ, ◌+◌, ◌*◌, ◌≤◌, ◌<◌, List, length}
use Rattle.model.specs.Limits.{most_globals, header_bytes, record_bytes}
use Rattle.model.specs.CaseFile.{global_count}

-- The header is there, and x is one of so many that have a field in it.
pub record InHeader (bytes : List ℕ) (x many : ℕ) : Type 0 where
  pub header : header_bytes ≤ length bytes
  pub among : x < many

-- The header is there, and has a field for each global.
pub record HasGlobals (bytes : List ℕ) : Type 0 where
  pub header : header_bytes ≤ length bytes
  pub few_globals : global_count bytes ≤ most_globals

-- The header is there, and has all fields before the field `end`.
pub record HasFields (bytes : List ℕ) (end : ℕ) : Type 0 where
  pub header : header_bytes ≤ length bytes
  pub fields : 2 * end ≤ header_bytes

-- Record k is there, from 1.
pub record HasRecord (bytes : List ℕ) (k : ℕ) : Type 0 where
  pub counted : 1 ≤ k
  pub inside : header_bytes + record_bytes * k ≤ length bytes

-- Field j of record k is there.
pub record HasField (bytes : List ℕ) (k j : ℕ) : Type 0 where
  pub field : j < 8
  pub inside : header_bytes + record_bytes * k ≤ length bytes
