-- The loop over closing parentheses, after j of them. Assumes nothing. Met again in `put_closing`.
use mathlib.Core.Path.{◌≡◌}
use Prim.Native.Nat.{ℕ, suc, ◌+◌, ◌-◌, ◌≤◌, ◌<◌}
use mathlib.Core.List.{[], ◌∷◌, ◌++◌}
use native.Mathlib.Omega.{arith}
use Rattle.spell.specs.declared.Writer.{Writer}
use Rattle.spell.specs.Spelt.{Puts}
use Rattle.spell.specs.Atoms.{closing}
use Rattle.spell.proofs.Spelling.{Remains, left_more, left_end}

pub closing_all : (many : ℕ) → closing (many - 0) ≡ closing many
closing_all many = let all : many - 0 ≡ many = omega arith in rw all

module _ {many j : ℕ} {before : Writer} {out : Writer} (v : Remains (closing many) before out (closing (many - j))) where
  pub closing_more : j < many → {a : Writer} → Puts (41 ∷ []) out a → Remains (closing many) before a (closing (many - (j + 1)))
  unfolding closing
  closing_more h put = left_more v one put
    where
      one : closing (many - j) ≡ (41 ∷ []) ++ closing (many - (j + 1))
      one = let e : many - j ≡ suc (many - (j + 1)) = omega arith in rw e

  pub closing_end : many ≤ j → Puts (closing many) before out
  unfolding closing
  closing_end h = left_end v none
    where
      none : closing (many - j) ≡ []
      none = let e : many - j ≡ 0 = omega arith in rw e
