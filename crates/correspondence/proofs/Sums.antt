-- Sums of f 0, f 1, .. : where two are equal, where they differ at one number, and where one is positive.
-- Assumes nothing. Met again in Breaks and Rows, where lines that violate are counted.
use mathlib.Core.Path.{◌≡◌, refl, ap}
use mathlib.Core.Logic.{◌≢◌}
use Prim.Native.Nat.{ℕ, zero, suc, ◌+◌, ◌<◌}
use native.Mathlib.Omega.{arith}
use Rattle.laws.proofs.Views.{EqView, same, diff, eq_view}
use Rattle.correspondence.specs.Meaning.{sum_below}

pub sum_below_zero : (f : ℕ → ℕ) (m : ℕ) → ((t : ℕ) → t < m → f t ≡ 0) → sum_below f m ≡ 0
sum_below_zero f zero each = refl
sum_below_zero f (suc m) each = omega (arith, each m (omega arith), sum_below_zero f m (λ t h. each t (omega arith)))

pub sum_below_same : (f g : ℕ → ℕ) (m : ℕ) → ((t : ℕ) → t < m → f t ≡ g t) → sum_below f m ≡ sum_below g m
sum_below_same f g zero each = refl
sum_below_same f g (suc m) each = omega (arith, each m (omega arith), sum_below_same f g m (λ t h. each t (omega arith)))

-- Two sums that differ by x at number t alone.
pub sum_below_differs_at : (f g : ℕ → ℕ) (t x m : ℕ) → t < m → f t ≡ x + g t → ((u : ℕ) → u ≢ t → u < m → f u ≡ g u)
    → sum_below f m ≡ x + sum_below g m
sum_below_differs_at f g t x zero h here others = absurd (omega arith)
sum_below_differs_at f g t x (suc m) h here others =
    go (eq_view m t) (λ h'. sum_below_differs_at f g t x m h' here (λ u differs hu. others u differs (omega arith)))
  where
    go : EqView m t → (t < m → sum_below f m ≡ x + sum_below g m) → sum_below f (suc m) ≡ x + sum_below g (suc m)
    go (same e _) ih = omega (arith, ap f e, ap g e, here, sum_below_same f g m (λ u hu. others u (λ e'. omega arith) (omega arith)))
    go (diff differs _) ih = omega (arith, ih (omega arith), others m differs (omega arith))

-- f t is positive for some t below m
abbrev pub SomeBelow : (ℕ → ℕ) → ℕ → Type 0
SomeBelow f m = (t : ℕ) × (t < m) × (0 < f t)

pub some_of_sum : (f : ℕ → ℕ) (m : ℕ) → 0 < sum_below f m → SomeBelow f m
some_of_sum f zero h = absurd (omega arith)
some_of_sum f (suc m) h = go (f m) refl (some_of_sum f m)
  where
    go : (x : ℕ) → f m ≡ x → (0 < sum_below f m → SomeBelow f m) → SomeBelow f (suc m)
    go zero e ih = let one = ih (omega (arith, e)) in (one.0, omega (arith, one.1), one.2)
    go (suc x) e ih = (m, omega arith, omega (arith, e))

pub sum_of_some : (f : ℕ → ℕ) (m t : ℕ) → t < m → 0 < f t → 0 < sum_below f m
sum_of_some f zero t h p = absurd (omega arith)
sum_of_some f (suc m) t h p = go (eq_view t m) (λ h'. sum_of_some f m t h' p)
  where
    go : EqView t m → (t < m → 0 < sum_below f m) → 0 < sum_below f (suc m)
    go (same e q) ih = omega (arith, p, ap f e)
    go (diff e q) ih = omega (arith, ih (omega arith))
