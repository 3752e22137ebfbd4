-- The digits of a number: one, or those of its tenth and the last. Five are enough below 65,536.
-- Assumes nothing. Met in the proofs of `put_digits` and `put_number`, and where the text is measured.
use mathlib.Core.Path.{◌≡◌, refl}
use Prim.Native.Nat.{ℕ, zero, suc, ◌+◌, ◌/◌, ◌%◌, ◌≤◌, ◌<◌}
use mathlib.Core.Bool.{Bool, true, false}
use mathlib.Core.List.{[], ◌∷◌, ◌++◌}
use native.Mathlib.Omega.{arith}
use borrow.Author.Tests.{lt-ltb, le-ltb}
use lib.Dec.{ltb}
use lib.ListN.{length, length-append}
use Rattle.model.specs.Listing.{digit, digits_of, decimal}
use Rattle.listing_text.specs.Text.{ended}

digits_are_few : (most x : ℕ) → length (digits_of most x) ≤ most
unfolding digits_of
digits_are_few zero x = omega arith
digits_are_few (suc most) x = go (ltb x 10) refl (digits_are_few most (x / 10))
  where
    go : (q : Bool) → ltb x 10 ≡ q → length (digits_of most (x / 10)) ≤ most → length (digits_of (suc most) x) ≤ suc most
    go true e rest = rw e (omega arith)
    go false e rest = rw e (omega (arith, length-append (digits_of most (x / 10)) (digit (x % 10) ∷ [])))

five_digits : (x : ℕ) → length (decimal x) ≤ 5
unfolding decimal
five_digits x = digits_are_few 5 x

-- a place after a number's digits
pub within_five : (at place x : ℕ) → place ≡ at + length (decimal x) → place ≤ at + 5
within_five at place x e = omega (arith, five_digits x)

ended_size : (x end : ℕ) → length (ended x end) ≡ length (decimal x) + 1
unfolding ended
ended_size x end = length-append (decimal x) (end ∷ [])

pub six_bytes : (x end : ℕ) → length (ended x end) ≤ 6
six_bytes x end = omega (arith, ended_size x end, five_digits x)

pub one_digit : (x : ℕ) → x < 10 → decimal x ≡ digit x ∷ []
unfolding decimal digits_of
one_digit x h = rw (lt-ltb x 10 h)

four_are_enough : (x : ℕ) → x < 10000 → digits_of 5 x ≡ digits_of 4 x
unfolding digits_of
four_are_enough x h = rw (lt-ltb (x / 10 / 10 / 10) 10 (omega arith))

last_digit : (x : ℕ) → 10 ≤ x → digits_of 5 x ≡ digits_of 4 (x / 10) ++ (digit (x % 10) ∷ [])
unfolding digits_of
last_digit x h = rw (le-ltb x 10 h)

pub more_digits : (x : ℕ) → 10 ≤ x → x < 65536 → decimal x ≡ decimal (x / 10) ++ (digit (x % 10) ∷ [])
unfolding decimal
more_digits x h small = rw (four_are_enough (x / 10) (omega arith)) (last_digit x h)
