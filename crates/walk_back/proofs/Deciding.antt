-- The walk over copies, copy by copy.
-- Assumes nothing.
use mathlib.Core.Path.{◌≡◌, refl, sym, ◌∙◌}
use mathlib.Core.Logic.{◌≢◌}
use Prim.Native.Nat.{ℕ, zero, suc, ◌-◌, ◌≤◌, ◌<◌}
use mathlib.Core.Bool.{cond}
use mathlib.Core.List.{List}
use native.Mathlib.Omega.{arith}
use lib.Dec.{eqb}
use lib.ListN.{get_or}
use borrow.Author.Tests.{eq-eqb, ne_eqb}
use Rattle.model.specs.Word.{word_size}
use Rattle.model.specs.Limits.{most_lines}
use Rattle.assignment.specs.Numbers.{record_block}
use Rattle.walk_back.specs.Deciding.{deciding}

-- At copy p, with so many copies left: the copy that decides from here on is the one that decides from the last copy on.
pub record DecidingWalk (previous xs : List ℕ) (i last p left : ℕ) : Type 0 where
  pub small : p < word_size
  pub upto : left ≤ most_lines
  pub same : deciding previous xs i left p ≡ deciding previous xs i most_lines last

-- Where some are left, copy p decides, or the copy before it is the next.
deciding_step : (previous xs : List ℕ) (i p left r : ℕ) → left ≢ 0 → deciding previous xs i left p ≡ r
    → cond (eqb p 0) 0 (cond (eqb (record_block xs p) i) p (deciding previous xs i (left - 1) (get_or previous p 0))) ≡ r
unfolding deciding
deciding_step previous xs i p zero r some e = absurd (some refl)
deciding_step previous xs i p (suc left) r some e = let z : suc left - 1 ≡ left = omega arith in rw z e

module _ {previous xs : List ℕ} {i last p left : ℕ} (v : DecidingWalk previous xs i last p left) where
  pub deciding_spent : left ≡ 0 → 0 ≡ deciding previous xs i most_lines last
  unfolding deciding
  deciding_spent h = rw h at v.same

  module _ (some : left ≢ 0) where
    pub deciding_ends : p ≡ 0 → 0 ≡ deciding previous xs i most_lines last
    deciding_ends h = rw (eq-eqb p 0 h) at (deciding_step previous xs i p left _ some v.same)

    module _ (copy : p ≢ 0) {b : ℕ} (e : b ≡ record_block xs p) where
      pub deciding_found : b ≡ i → p ≡ deciding previous xs i most_lines last
      deciding_found q = rw (ne_eqb p 0 copy, eq-eqb (record_block xs p) i (sym e ∙ q)) at (deciding_step previous xs i p left _ some v.same)

      pub deciding_goes_on : b ≢ i → {q : ℕ} → q ≡ get_or previous p 0 → q < word_size → DecidingWalk previous xs i last q (left - 1)
      deciding_goes_on n eq small =
          let same = rw (ne_eqb p 0 copy, ne_eqb (record_block xs p) i (λ x. n (e ∙ x)), ← eq) at (deciding_step previous xs i p left _ some v.same) in
          record { small = small; upto = omega arith; same = same }
