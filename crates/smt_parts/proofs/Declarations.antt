-- The lines that declare variables. Assumes nothing. Met again in `put_declaration` and `put_declarations`.
use mathlib.Core.Path.{◌≡◌}
use Prim.Native.Nat.{ℕ, suc, ◌+◌, ◌-◌, ◌≤◌, ◌<◌}
use mathlib.Core.List.{[], ◌++◌}
use native.Mathlib.Omega.{arith}
use native.Mathlib.Numerals.{add-one}
use Rattle.smt.specs.Term.{variable}
use Rattle.smt.specs.Spelling.{ascii, term_text, declaration, declarations}
use Rattle.spell.specs.declared.Writer.{Writer}
use Rattle.spell.specs.Spelt.{Puts}
use Rattle.spell.proofs.Spelling.{puts_then, Remains, left_more, left_end}

module _ {d a b e : Writer} (k : ℕ) where
  pub declaration_spelt : Puts (ascii "(declare-fun ") d a → Puts (term_text (variable k)) a b → Puts (ascii " () (_ BitVec 16))\n") b e
      → Puts (declaration k) d e
  unfolding declaration term_text
  declaration_spelt word name sort = puts_then word (puts_then name sort)

-- The loop, at variable k.
pub all_declarations : (count : ℕ) → declarations 0 (count - 0) ≡ declarations 0 count
all_declarations count = let all : count - 0 ≡ count = omega arith in rw all

module _ {count k : ℕ} {before : Writer} {out : Writer} (v : Remains (declarations 0 count) before out (declarations k (count - k))) where
  pub declaring_more : k < count → {a : Writer} → Puts (declaration k) out a → Remains (declarations 0 count) before a (declarations (k + 1) (count - (k + 1)))
  unfolding declarations
  declaring_more h put = left_more v one put
    where
      one : declarations k (count - k) ≡ declaration k ++ declarations (k + 1) (count - (k + 1))
      one = let e : count - k ≡ suc (count - (k + 1)) = omega arith in rw (e, add-one k)

  pub declaring_end : count ≤ k → Puts (declarations 0 count) before out
  unfolding declarations
  declaring_end h = left_end v none
    where
      none : declarations k (count - k) ≡ []
      none = let e : count - k ≡ 0 = omega arith in rw e
