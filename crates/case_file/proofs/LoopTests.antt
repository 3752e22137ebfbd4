-- Tests of a range of numbers as loops meet them, and what an answer of a test says.
-- Assumes nothing.
use mathlib.Core.Path.{◌≡◌, sym, ap, ◌∙◌}
use Prim.Native.Nat.{ℕ, suc, ◌+◌, ◌-◌, ◌≤◌, ◌<◌}
use mathlib.Core.Bool.{Bool, true, false, not, ◌&&◌}
use native.Mathlib.Omega.{arith}
use native.Mathlib.Numerals.{add-one}
use borrow.Author.Tests.{not-true, not-false}
use Rattle.model.specs.Lists.{all_from}

-- From i to before `to`.
module _ (test : ℕ → Bool) (i to : ℕ) where
  pub all_at_end : to ≤ i → all_from test i (to - i) ≡ true
  unfolding all_from
  all_at_end h = let e : to - i ≡ 0 = omega arith in rw e

  pub all_fails : i < to → test i ≡ false → all_from test i (to - i) ≡ false
  unfolding all_from
  all_fails h bad = let e : to - i ≡ suc (to - (i + 1)) = omega arith in rw (e, bad)

  pub all_goes_on : i < to → test i ≡ true → all_from test i (to - i) ≡ all_from test (i + 1) (to - (i + 1))
  unfolding all_from
  all_goes_on h ok = let e : to - i ≡ suc (to - (i + 1)) = omega arith in rw (e, ok, add-one)

  pub all_next : i < to → all_from test i (to - i) ≡ (test i && all_from test (i + 1) (to - (i + 1)))
  unfolding all_from
  all_next h = let e : to - i ≡ suc (to - (i + 1)) = omega arith in rw (e, add-one)

-- A walk over the numbers from 1 to `most`, at k: those that are left decide what is asked of all.
pub record RangeLeft {A : Type 0} (asked : ℕ → ℕ → A) (most k : ℕ) : Type 0 where
  pub counted : 1 ≤ k
  pub left : asked k (most + 1 - k) ≡ asked 1 most

module _ {A : Type 0} {asked : ℕ → ℕ → A} {most : ℕ} where
  pub range_start : RangeLeft asked most 1
  range_start = record { counted = omega arith; left = ap (asked 1) (omega arith) }

  pub range_more : {k : ℕ} → RangeLeft asked most k → asked k (most + 1 - k) ≡ asked (k + 1) (most + 1 - (k + 1)) → RangeLeft asked most (k + 1)
  range_more v e = record { counted = omega arith; left = sym e ∙ v.left }

-- The answer r of a check, and whether the code went on.
pub failed : {r check : Bool} → r ≡ check → not r ≡ true → check ≡ false
failed {r} e h = sym e ∙ not-true r h

pub passed : {r check : Bool} → r ≡ check → not r ≡ false → check ≡ true
passed {r} e h = sym e ∙ not-false r h
