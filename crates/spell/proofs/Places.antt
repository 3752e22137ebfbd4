-- Places in a slice: the place after some bytes, and the slice that they are copied into. Assumes nothing. Met again in `put`.
use mathlib.Core.Path.{◌≡◌, refl, sym, ap, ◌∙◌}
use mathlib.Core.Bool.{Bool, true, false}
use Prim.Native.Nat.{ℕ, ◌+◌, ◌-◌, ◌≤◌, ◌<◌, min}
use mathlib.Core.List.{List, ◌++◌}
use native.Mathlib.Omega.{arith}
use borrow.Author.Tests.{ltb-true, ltb-false}
use borrow.Rule.Slice.PartMut.{put_mid}
use lib.Dec.{ltb}
use lib.ListN.{length, take, drop}
use lib.Seq.{sets-eq, length-take-le}
use native.Mathlib.Nat.{min-eq_left, min-eq_right, le-min, min-le_left}
use Rattle.std.proofs.lemmas.List.{length-drop, take_all}
use Rattle.std.proofs.lemmas.Slice.{put_mid-paste}
use Rattle.laws.specs.Written.{numbers_at}
use Rattle.spell.specs.Spelt.{top, capped, Spelt}
use Rattle.spell.proofs.Spelling.{capped_below, capped_beyond, spelt_in}

-- The place after some bytes, which is not beyond the highest.
module _ (place : ℕ) {end : ℕ} (e : end ≡ min place top) where
  pub capped_min : end ≡ capped place
  capped_min = go (ltb top place) refl
    where
      go : (p : Bool) → ltb top place ≡ p → end ≡ capped place
      go true q = let h = ltb-true top place q in e ∙ min-eq_right (omega (arith, h)) ∙ sym (capped_beyond place h)
      go false q = let h = ltb-false top place q in e ∙ min-eq_left h ∙ sym (capped_below place h)

-- Bytes that are copied stand in their place.
copied : (before bytes : List ℕ) (at many : ℕ) → many ≡ length bytes → at + length bytes ≤ length before → put_mid at many before bytes ≡ numbers_at before at bytes
unfolding numbers_at
copied before bytes at many e h =
    put_mid-paste at many before bytes bytes (length bytes) refl (sym e) refl
    ∙ ap (λ (here : List ℕ). take at before ++ here ++ drop (at + length bytes) before) (take_all (length bytes) bytes (omega arith))
    ∙ sym (sets-eq bytes before at h)

pub copied_in : {before bytes new : List ℕ} {at end : ℕ} → at ≤ top → end ≡ min (at + length bytes) top → end ≤ length before
    → length new ≡ length (take (end - at) (drop at before)) → new ≡ bytes → Spelt bytes before at (put_mid at (end - at) before new) end
copied_in {before} {bytes} {new} {at} {end} h e fits size is = rw is (spelt_in (copied before bytes at (end - at) (omega (arith, so_many)) (omega (arith, so_many, fits))) (capped_min (at + length bytes) e))
  where
    behind : at ≤ end
    behind = rw e (le-min (omega (arith)) h)

    so_many : length bytes ≡ end - at
    so_many = sym (ap length is) ∙ size ∙ length-take-le (end - at) (drop at before) (omega (arith, fits, length-drop at before))

-- Nothing is copied where the bytes reach beyond the slice.
pub spelt_beyond : {bytes before : List ℕ} {at end : ℕ} → end ≡ min (at + length bytes) top → length before < end → Spelt bytes before at before end
spelt_beyond {bytes} {before} {at} {end} e far = record { same = refl; place = capped_min (at + length bytes) e; slice = λ fits few. absurd (omega (arith, fits, far, least)) }
  where
    least : end ≤ at + length bytes
    least = rw e (min-le_left (at + length bytes) top)
