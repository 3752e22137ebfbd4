-- Going through a list of sources, with bytes for each. Assumes nothing. Met again where links and facts are put.
use mathlib.Core.Path.{◌≡◌, ap, ◌∙◌}
use Prim.Native.Nat.{ℕ, ◌+◌, ◌<◌, ◌≤◌}
use mathlib.Core.List.{List, [], ◌∷◌, ◌++◌}
use native.Mathlib.Numerals.{add-one}
use lib.ListN.{length, get_or, drop, drop_of_length-le}
use lib.Seq.{drop-cons}
use Rattle.spell.specs.declared.Writer.{Writer}
use Rattle.spell.specs.Spelt.{Puts}
use Rattle.spell.proofs.Spelling.{Remains, left_more, left_end}

-- One head for each source; the heads from the j-th source on are left.
module _ {before : Writer} {j : ℕ} {out : Writer} (heads : List ℕ → List ℕ) (xs : List ℕ) (v : Remains (heads xs) before out (heads (drop j xs))) where
  pub going_more : (head : ℕ → List ℕ) → ((s : ℕ) (ss : List ℕ) → heads (s ∷ ss) ≡ head s ++ heads ss) → j < length xs
      → {a : Writer} → Puts (head (get_or xs j 0)) out a → Remains (heads xs) before a (heads (drop (j + 1) xs))
  going_more head e h put = left_more v (ap heads (rw (add-one j) (drop-cons xs j 0 h)) ∙ e (get_or xs j 0) (drop (j + 1) xs)) put

  pub going_end : heads [] ≡ [] → length xs ≤ j → Puts (heads xs) before out
  going_end none h = left_end v (ap heads (drop_of_length-le xs {i = j} h) ∙ none)
