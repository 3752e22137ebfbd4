-- Case files for worked examples: a header and records, written as the fields that document 01 lists, and their bytes.
-- Assumes nothing. Met again in Examples, Refusals and Conventions.
use Prim.Native.Nat.{ℕ}
use mathlib.Core.List.{List, [], ◌∷◌, ◌++◌}
use Rattle.correspondence.proofs.CaseA.{bytes_of}

-- A header with no initial value other than 0, and a record.
unfoldable pub header : ℕ → ℕ → ℕ → ℕ → ℕ → ℕ → ℕ → ℕ → List ℕ
header T n G M f0 f1 f2 f3 = T ∷ n ∷ G ∷ M ∷ f0 ∷ f1 ∷ f2 ∷ f3 ∷ 0 ∷ 0 ∷ 0 ∷ 0 ∷ 0 ∷ 0 ∷ 0 ∷ 0 ∷ []

unfoldable pub rec : ℕ → ℕ → ℕ → ℕ → ℕ → ℕ → ℕ → ℕ → List ℕ → List ℕ
rec next kind guard target op a b c more = next ∷ kind ∷ guard ∷ target ∷ op ∷ a ∷ b ∷ c ∷ more

unfoldable pub file : List ℕ → List ℕ → List ℕ
unfolding bytes_of header rec
file head records = bytes_of (head ++ records)
