-- A table read back from the numbers that the encoder writes; what it is that all its rows hold, and that a row is the first that
-- does not.
-- Assumes nothing.
use Rattle.std.specs.Prelude.{◌≡◌, ℕ, ◌+◌, false, List, [], ◌∷◌, ◌++◌, length}
use Rattle.model.specs.CaseFile.{Case}
use Rattle.model.specs.Assignment.{Assignment}
use Rattle.model.specs.Table.{Row, row}
use Rattle.model.specs.Holds.{holds}
use Rattle.laws.specs.AllHold.{AllHold}

-- "A constraint is six 16-bit numbers": fewer than six left over are no row.
unfoldable pub rows_of : List ℕ → List Row
rows_of [] = []
rows_of (kind ∷ []) = []
rows_of (kind ∷ (one ∷ [])) = []
rows_of (kind ∷ (one ∷ (two ∷ []))) = []
rows_of (kind ∷ (one ∷ (two ∷ (three ∷ [])))) = []
rows_of (kind ∷ (one ∷ (two ∷ (three ∷ (four ∷ []))))) = []
rows_of (kind ∷ (one ∷ (two ∷ (three ∷ (four ∷ (five ∷ rest)))))) = row kind one two three four five ∷ rows_of rest

-- Row j, counted from k, fails, and all rows before it hold.
pub record FirstFails (case : Case) (α : Assignment) (k : ℕ) (rows : List Row) (j : ℕ) : Type 0 where
  pub before : List Row
  pub failing : Row
  pub after : List Row
  pub split : rows ≡ before ++ (failing ∷ after)
  pub place : length before + k ≡ j
  pub hold : AllHold case α before
  pub fails : holds case α failing ≡ false
