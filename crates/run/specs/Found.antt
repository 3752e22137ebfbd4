-- What a search for a record finds.
-- Assumes nothing.
use Rattle.std.specs.Prelude.{◌≡◌, ◌≢◌, ℕ, Option, Some}
use Rattle.std.specs.Option.{unwrap_or}

-- A search through some lines, which is given what the lines after them come to, finds this record.
pub record Finds (search : ℕ → ℕ) (r : Option ℕ) : Type 0 where
  pub answers : (others : ℕ) → search others ≡ unwrap_or r others
  pub is_record : r ≢ Some 0
