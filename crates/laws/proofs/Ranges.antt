-- Ranges of numbers: how many there are, which stands where, and what tests of a range give for each number of it.
-- Assumes nothing. Met again in Accepted, where each check is a test of a range, and wherever numbers are listed by place.
use mathlib.Core.Path.{◌≡◌, refl, sym, ap, ap₂, ◌∙◌}
use Prim.Native.Nat.{ℕ, zero, suc, ◌+◌, ◌≤◌, ◌<◌}
use mathlib.Core.Bool.{Bool, true, false}
use mathlib.Core.List.{List, ◌∷◌}
use native.Mathlib.Omega.{arith}
use native.Mathlib.Nat.{add-zero}
use lib.ListN.{get_or, length}
use Rattle.model.specs.Lists.{numbers_from, all_from, lowest_failing}
use Rattle.laws.proofs.Views.{EqView, same, diff, eq_view, and-true, true_and}

module _ (test : ℕ → Bool) where
  pub all_from_gives : (i many : ℕ) → all_from test i many ≡ true → (j : ℕ) → i ≤ j → j < i + many → test j ≡ true
  unfolding all_from
  all_from_gives i zero e j h h' = absurd (omega arith)
  all_from_gives i (suc many) e j h h' = go (eq_view i j) (all_from_gives (suc i) many (and-true (test i) (all_from test (suc i) many) e).rest j)
    where
      go : EqView i j → (suc i ≤ j → j < suc i + many → test j ≡ true) → test j ≡ true
      go (same p q) rest = ap test (sym p) ∙ (and-true (test i) (all_from test (suc i) many) e).first
      go (diff p q) rest = rest (omega arith) (omega arith)

  pub all_from_of : (i many : ℕ) → ((j : ℕ) → i ≤ j → j < i + many → test j ≡ true) → all_from test i many ≡ true
  unfolding all_from
  all_from_of i zero h = refl
  all_from_of i (suc many) h =
      true_and (test i) (all_from test (suc i) many) (h i (omega arith) (omega arith))
      (all_from_of (suc i) many (λ j a b. h j (omega arith) (omega arith)))

  pub none_failing_gives : (i many : ℕ) → 0 < i → lowest_failing test i many ≡ 0 → (j : ℕ) → i ≤ j → j < i + many → test j ≡ true
  unfolding lowest_failing
  none_failing_gives i zero p e j h h' = absurd (omega arith)
  none_failing_gives i (suc many) p e j h h' = go (test i) refl (eq_view i j) (none_failing_gives (suc i) many (omega arith))
    where
      go : (q : Bool) → test i ≡ q → EqView i j
          → (lowest_failing test (suc i) many ≡ 0 → (k : ℕ) → suc i ≤ k → k < suc i + many → test k ≡ true) → test j ≡ true
      go false w v rest = absurd (omega (arith, rw w at e))
      go true w (same z q) rest = ap test (sym z) ∙ w
      go true w (diff z q) rest = rest (rw w at e) j (omega arith) (omega arith)

pub length_numbers_from : (f : ℕ → ℕ) (i many : ℕ) → length (numbers_from f i many) ≡ many
unfolding numbers_from
length_numbers_from f i zero = refl
length_numbers_from f i (suc many) = ap suc (length_numbers_from f (suc i) many)

pub numbers_at_lem : (f : ℕ → ℕ) (i many j : ℕ) → j < many → get_or (numbers_from f i many) j 0 ≡ f (i + j)
unfolding numbers_from
numbers_at_lem f i zero j h = absurd (omega arith)
numbers_at_lem f i (suc many) zero h = ap f (sym (add-zero i))
numbers_at_lem f i (suc many) (suc j) h = numbers_at_lem f (suc i) many j (omega arith) ∙ ap f (omega arith)

pub same_numbers : (f g : ℕ → ℕ) (i k many : ℕ) → ((j : ℕ) → j < many → f (i + j) ≡ g (k + j)) → numbers_from f i many ≡ numbers_from g k many
unfolding numbers_from
same_numbers f g i k zero h = refl
same_numbers f g i k (suc many) h = ap₂ (λ (x : ℕ) (xs : List ℕ). x ∷ xs) (ap f (sym (add-zero i)) ∙ h 0 (omega arith) ∙ ap g (add-zero k))
    (same_numbers f g (suc i) (suc k) many (λ j few. ap f (omega arith) ∙ h (suc j) (omega arith) ∙ ap g (omega arith)))
