-- What a walk over some constraints comes to.
-- Assumes nothing.
use Rattle.std.specs.Prelude.{ℕ, zero, suc, ◌+◌, ◌<◌, ◌≤◌, cond, List, [], ◌∷◌, length, Result, Ok, Err}
use Rattle.model.specs.Limits.{most_constraints}
use Rattle.model.specs.CaseFile.{case_of}
use Rattle.model.specs.Assignment.{assignment_of}
use Rattle.model.specs.Table.{Row}
use Rattle.model.specs.Holds.{holds}
use Rattle.search.specs.declared.Failed.{Failed}

-- Looking through these constraints, the first of which has number `at`, of a case and an assignment as they are given to the calls:
-- the first that fails, or the number of the next constraint after them. It fails with the number that the model's `first_failing`
-- gives, and else comes to `at` and how many they are (`searched_is`).
unfoldable pub searched : List ℕ → List ℕ → ℕ → List Row → Result ℕ Failed
searched bytes xs at [] = Ok at
searched bytes xs at (w ∷ rows) = cond (holds (case_of bytes) (assignment_of (case_of bytes) xs) w) (searched bytes xs (suc at) rows) (Err (record { constraint = at }))

-- The first constraint that fails, where it has this number; with 0 all hold, and this comes of it.
unfoldable pub unless_fails : {T : Type 0} → ℕ → T → Result T Failed
unless_fails zero x = Ok x
unless_fails (suc n) x = Err (record { constraint = suc n })

-- A walk over these constraints starts at a number above 0, and there are numbers for all of them.
pub record Room (start : ℕ) (rows : List Row) : Type 0 where
  pub counted : 0 < start
  pub room : start + length rows ≤ most_constraints
