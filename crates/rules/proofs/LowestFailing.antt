-- The lowest record that fails a test, as a loop meets it.
-- Assumes nothing.
use mathlib.Core.Path.{◌≡◌}
use Prim.Native.Nat.{ℕ, suc, ◌+◌, ◌-◌, ◌≤◌, ◌<◌}
use mathlib.Core.Bool.{Bool, true, false}
use native.Mathlib.Omega.{arith}
use native.Mathlib.Numerals.{add-one}
use borrow.Author.Tests.{ne_eqb}
use Rattle.std.specs.Prelude.{Some, None}
use Rattle.model.specs.Lists.{lowest_failing, unless_0}

-- Of the records from i to before `to`.
module _ (test : ℕ → Bool) (i to : ℕ) where
  pub lowest_at_end : to ≤ i → lowest_failing test i (to - i) ≡ 0
  unfolding lowest_failing
  lowest_at_end h = let e : to - i ≡ 0 = omega arith in rw e

  pub lowest_found : i < to → test i ≡ false → lowest_failing test i (to - i) ≡ i
  unfolding lowest_failing
  lowest_found h bad = let e : to - i ≡ suc (to - (i + 1)) = omega arith in rw (e, bad)

  pub lowest_goes_on : i < to → test i ≡ true → lowest_failing test i (to - i) ≡ lowest_failing test (i + 1) (to - (i + 1))
  unfolding lowest_failing
  lowest_goes_on h ok = let e : to - i ≡ suc (to - (i + 1)) = omega arith in rw (e, ok, add-one)

-- The lowest as an answer.
module _ {lowest : ℕ} where
  pub some_lowest : {k : ℕ} → lowest ≡ k → 1 ≤ k → Some k ≡ unless_0 lowest
  some_lowest {k} e some = rw (e, ne_eqb k 0 (λ z. omega arith))

  pub none_lowest : lowest ≡ 0 → None ≡ unless_0 lowest
  none_lowest e = rw e
