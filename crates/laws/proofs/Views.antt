-- Cases of a test of two numbers that keep the test's own equation, for `rw`.
-- Assumes nothing. Met again wherever a proof splits on a test.
use mathlib.Core.Path.{◌≡◌, refl, sym}
use mathlib.Core.Logic.{◌≢◌}
use Prim.Native.Nat.{ℕ, ◌≤◌, ◌<◌}
use mathlib.Core.Bool.{Bool, true, false, ◌&&◌, true≢false}
use lib.Dec.{ltb, leb, eqb}
use borrow.Author.Tests.{ltb-true, ltb-false, leb-true, leb-false, eqb-true, eqb-false}

-- equal or not
pub data EqView (m n : ℕ) : Type 0 where
  same : m ≡ n → eqb m n ≡ true → EqView m n
  diff : m ≢ n → eqb m n ≡ false → EqView m n

pub eq_view : (m n : ℕ) → EqView m n
eq_view m n = go (eqb m n) refl
  where
    go : (q : Bool) → eqb m n ≡ q → EqView m n
    go true e = same (eqb-true m n e) e
    go false e = diff (eqb-false m n e) e

-- less or not
pub data LtView (m n : ℕ) : Type 0 where
  below : m < n → ltb m n ≡ true → LtView m n
  above : n ≤ m → ltb m n ≡ false → LtView m n

pub lt_view : (m n : ℕ) → LtView m n
lt_view m n = go (ltb m n) refl
  where
    go : (q : Bool) → ltb m n ≡ q → LtView m n
    go true e = below (ltb-true m n e) e
    go false e = above (ltb-false m n e) e

-- at most or not
pub data LeView (m n : ℕ) : Type 0 where
  within : m ≤ n → leb m n ≡ true → LeView m n
  beyond : n < m → leb m n ≡ false → LeView m n

pub le_view : (m n : ℕ) → LeView m n
le_view m n = go (leb m n) refl
  where
    go : (q : Bool) → leb m n ≡ q → LeView m n
    go true e = within (leb-true m n e) e
    go false e = beyond (leb-false m n e) e

-- both parts of an `and`
pub record BothTrue (p q : Bool) : Type 0 where
  pub first : p ≡ true
  pub rest : q ≡ true

pub and-true : (p q : Bool) → (p && q) ≡ true → BothTrue p q
and-true true q e = record { first = refl; rest = e }
and-true false q e = absurd (true≢false (sym e))

pub true_and : (p q : Bool) → p ≡ true → q ≡ true → (p && q) ≡ true
true_and true q e f = f
true_and false q e f = e

pub and_false : (q : Bool) → (q && false) ≡ false
and_false true = refl
and_false false = refl
