-- Lists of numbers below a bound.
-- Assumes nothing. Met again in correspondence's WellFormed and Bounds, for bytes and for 16-bit numbers.
use Prim.Native.Nat.{ℕ, zero, suc, ◌<◌}
use mathlib.Core.List.{List, [], ◌∷◌, ◌++◌}
use lib.ListN.{get_or, set, drop, replicate}
use Rattle.model.specs.Word.{AllBelow}
use Rattle.model.specs.Lists.{numbers_from}

module _ (bound : ℕ) where
  pub below_at : (xs : List ℕ) → 0 < bound → AllBelow bound xs → (i : ℕ) → get_or xs i 0 < bound
  below_at [] some h i = some
  below_at (x ∷ xs) some h zero = h.0
  below_at (x ∷ xs) some h (suc i) = below_at xs some h.1 i

  pub all_below_set : (xs : List ℕ) (i x : ℕ) → AllBelow bound xs → x < bound → AllBelow bound (set xs i x)
  all_below_set [] i x h small = tt
  all_below_set (y ∷ xs) zero x h small = (small, h.1)
  all_below_set (y ∷ xs) (suc i) x h small = (h.0, all_below_set xs i x h.1 small)

  pub all_below_append : (xs ys : List ℕ) → AllBelow bound xs → AllBelow bound ys → AllBelow bound (xs ++ ys)
  all_below_append [] ys h g = g
  all_below_append (x ∷ xs) ys h g = (h.0, all_below_append xs ys h.1 g)

  pub all_below_replicate : (many x : ℕ) → x < bound → AllBelow bound (replicate many x)
  all_below_replicate zero x h = tt
  all_below_replicate (suc many) x h = (h, all_below_replicate many x h)

  pub all_below_numbers_from : (f : ℕ → ℕ) (i many : ℕ) → ((j : ℕ) → f j < bound) → AllBelow bound (numbers_from f i many)
  unfolding numbers_from
  all_below_numbers_from f i zero h = tt
  all_below_numbers_from f i (suc many) h = (h i, all_below_numbers_from f (suc i) many h)

  pub all_below_drop : (k : ℕ) (xs : List ℕ) → AllBelow bound xs → AllBelow bound (drop k xs)
  all_below_drop zero xs h = h
  all_below_drop (suc k) [] h = h
  all_below_drop (suc k) (x ∷ xs) h = all_below_drop k xs h.1
