-- A number put into a text: its digits, and the byte that ends it.
-- Assumes nothing. Met in the proofs of `put_digits` and `put_number`.
use mathlib.Core.Path.{◌≡◌, refl, ap, ◌∙◌}
use Prim.Native.Nat.{ℕ, ◌+◌, ◌/◌, ◌%◌, ◌≤◌, ◌<◌}
use mathlib.Core.List.{List, [], ◌∷◌, ◌++◌}
use Rattle.model.specs.Listing.{digit, decimal}
use Rattle.laws.specs.Written.{numbers_at, Put}
use Rattle.laws.proofs.Writing.{put_then}
use Rattle.listing_text.specs.Text.{ended}
use Rattle.listing_text.proofs.Digits.{one_digit, more_digits}

-- a byte after some
put_last : {d a x xs : List ℕ} {at place b b' : ℕ} → Put xs d at a place → x ≡ numbers_at a place (b ∷ []) → b ≡ b' → Put (xs ++ (b' ∷ [])) d at x (place + 1)
put_last {a = a} {place = place} put ex e = put_then put (record { slice = ex ∙ ap (λ (c : ℕ). numbers_at a place (c ∷ [])) e; place = refl })

pub put_one_digit : {d a : List ℕ} {at n b : ℕ} → n < 10 → a ≡ numbers_at d at (b ∷ []) → b ≡ digit n → Put (decimal n) d at a (at + 1)
put_one_digit {d} {at = at} {n = n} h ea e = rw (one_digit n h) (record { slice = ea ∙ ap (λ (c : ℕ). numbers_at d at (c ∷ [])) e; place = refl })

pub put_last_digit :
    {d a x : List ℕ} {at n place b : ℕ} → 10 ≤ n → n < 65536 → Put (decimal (n / 10)) d at a place → x ≡ numbers_at a place (b ∷ []) → b ≡ digit (n % 10)
    → Put (decimal n) d at x (place + 1)
put_last_digit {n = n} h small put ex e = rw (more_digits n h small) (put_last put ex e)

pub put_ended : {d a x : List ℕ} {at place : ℕ} (n end : ℕ) → Put (decimal n) d at a place → x ≡ numbers_at a place (end ∷ []) → Put (ended n end) d at x (place + 1)
unfolding ended
put_ended n end put ex = put_last put ex refl
