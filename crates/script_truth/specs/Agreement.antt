-- The assertions of a script and the rows of a table, side by side. That those of a case agree is proofs/Truth.antt.
-- Assumes nothing.
use Rattle.std.specs.Prelude.{◌≡◌, ℕ, true, List, [], ◌∷◌}
use Rattle.model.specs.CaseFile.{Case}
use Rattle.model.specs.Assignment.{Assignment}
use Rattle.model.specs.Table.{Row}
use Rattle.model.specs.Holds.{holds}
use Rattle.smt.specs.Term.{Formula, meets}

-- There is an assertion for each row, and it is true exactly if the row holds, where the rows before it hold.
abbrev pub EachAgrees : Case → Assignment → (ℕ → ℕ) → List Row → List Formula → Type 0
EachAgrees case α env [] [] = Unit
EachAgrees case α env [] (f ∷ fs) = ⊥
EachAgrees case α env (w ∷ ws) [] = ⊥
EachAgrees case α env (w ∷ ws) (f ∷ fs) = (meets f env ≡ holds case α w) × (holds case α w ≡ true → EachAgrees case α env ws fs)
