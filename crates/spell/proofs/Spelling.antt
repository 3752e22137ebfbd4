-- Bytes spelled one after the other: what is spelled so far and what is left. Assumes nothing. Met again wherever text is written.
use mathlib.Core.Path.{◌≡◌, refl, sym, ap, ◌∙◌}
use mathlib.Core.Bool.{Bool, true, false}
use Prim.Native.Nat.{ℕ, ◌+◌, ◌≤◌, ◌<◌}
use mathlib.Core.List.{List, [], ◌++◌, append_assoc, append-nil}
use native.Mathlib.Omega.{arith}
use lib.Dec.{ltb, leb}
use lib.ListN.{length, length-append}
use borrow.Author.Tests.{ltb-true, ltb-false, lt-ltb, le-ltb, leb-false}
use Rattle.laws.specs.Written.{numbers_at}
use Rattle.laws.proofs.Writing.{numbers_none, numbers_append, length_numbers}
use Rattle.spell.specs.Spelt.{top, capped, Spelt, Puts}
use Rattle.spell.specs.declared.Writer.{Writer}

-- Places up to the highest are themselves; beyond it there is only one.
pub capped_below : (x : ℕ) → x ≤ top → capped x ≡ x
unfolding capped
capped_below x h = rw (le-ltb top x h)

pub capped_beyond : (x : ℕ) → top < x → capped x ≡ top
unfolding capped
capped_beyond x h = rw (lt-ltb top x h)

capped_add : (x y : ℕ) → capped (capped x + y) ≡ capped (x + y)
capped_add x y = go (ltb top x) refl
  where
    go : (p : Bool) → ltb top x ≡ p → capped (capped x + y) ≡ capped (x + y)
    go true e = let h = ltb-true top x e in rw (capped_beyond x h) (both h)
      where
        both : top < x → capped (top + y) ≡ capped (x + y)
        both h = goes (ltb top (top + y)) refl
          where
            goes : (p : Bool) → ltb top (top + y) ≡ p → capped (top + y) ≡ capped (x + y)
            goes true f = capped_beyond (top + y) (ltb-true top (top + y) f) ∙ sym (capped_beyond (x + y) (omega (arith, h)))
            goes false f = let g = ltb-false top (top + y) f in capped_below (top + y) g ∙ z (omega (arith, g)) ∙ sym (capped_beyond (x + y) (omega (arith, h)))
              where
                z : y ≡ 0 → top + y ≡ top
                z e = omega (arith, e)
    go false e = rw (capped_below x (ltb-false top x e))

-- A test of the place says whether bytes are spelled, and where.
pub spelt_out : {bytes before : List ℕ} {at r : ℕ} → leb (at + length bytes) (length before) ≡ false → r ≡ capped (at + length bytes) → Spelt bytes before at before r
spelt_out {bytes} {before} {at} h e = record { same = refl; place = e; slice = λ fits few. absurd (omega (arith, leb-false (at + length bytes) (length before) h, fits)) }

pub spelt_in : {bytes before after : List ℕ} {at r : ℕ} → after ≡ numbers_at before at bytes → r ≡ capped (at + length bytes) → Spelt bytes before at after r
spelt_in {bytes} {before} {at = at} h e = record { same = ap length h ∙ length_numbers before at bytes; place = e; slice = λ fits few. h }

-- Nothing is spelled, or some bytes and then others.
spelt_nothing : {out : List ℕ} {at : ℕ} → at ≤ top → Spelt [] out at out at
spelt_nothing {out} {at} h = record { same = refl; place = sym (capped_below (at + 0) (omega arith) ∙ none); slice = λ fits few. sym (numbers_none out at) }
  where
    none : at + 0 ≡ at
    none = omega arith

pub spelt_then : {xs ys d a x : List ℕ} {at place end : ℕ} → Spelt xs d at a place → Spelt ys a place x end → Spelt (xs ++ ys) d at x end
spelt_then {xs} {ys} {d} {a} {x} {at} {place} {end} first second = record {
  same = second.same ∙ first.same;
  place = second.place ∙ ap (λ (k : ℕ). capped (k + length ys)) first.place ∙ capped_add (at + length xs) (length ys) ∙ ap capped size;
  slice = λ fits few.
      let there : place ≡ at + length xs = first.place ∙ capped_below (at + length xs) (omega (arith, fits, few, size)) in
      let before = first.slice (omega (arith, fits, size)) few in
      let behind = second.slice (omega (arith, fits, size, there, first.same)) (omega (arith, few, first.same)) in
      behind ∙ rw (there, before) (sym (numbers_append d at xs ys));
}
  where
    size : at + length xs + length ys ≡ at + length (xs ++ ys)
    size = omega (arith, length-append xs ys)

-- The same of a writer.
pub puts_nothing : {now : Writer} → now.at ≤ top → Puts [] now now
puts_nothing h = record { spelt = spelt_nothing h; same_slice = refl }

pub puts_then : {xs ys : List ℕ} {d a x : Writer} → Puts xs d a → Puts ys a x → Puts (xs ++ ys) d x
puts_then first second = record { spelt = spelt_then first.spelt second.spelt; same_slice = second.same_slice ∙ first.same_slice }

pub puts_as : {d a : Writer} {xs ys : List ℕ} → xs ≡ ys → Puts xs d a → Puts ys d a
puts_as e put = rw (sym e) put

-- All bytes, the writer before them and now, and the bytes that are left.
pub record Remains (bytes : List ℕ) (before now : Writer) (rest : List ℕ) : Type 0 where
  pub begun : List ℕ
  pub whole : begun ++ rest ≡ bytes
  pub puts : Puts begun before now

pub left_start : {bytes rest : List ℕ} {now : Writer} → now.at ≤ top → rest ≡ bytes → Remains bytes now now rest
left_start h e = record { begun = []; whole = e; puts = puts_nothing h }

module _ {bytes rest : List ℕ} {before now : Writer} (v : Remains bytes before now rest) where
  pub left_more : {here after : List ℕ} {then : Writer} → rest ≡ here ++ after → Puts here now then → Remains bytes before then after
  left_more {here} {after} e put = record {
    begun = v.begun ++ here;
    whole = append_assoc v.begun here after ∙ ap (λ (behind : List ℕ). v.begun ++ behind) (sym e) ∙ v.whole;
    puts = puts_then v.puts put;
  }

  -- No byte is left.
  pub left_end : rest ≡ [] → Puts bytes before now
  left_end e = rw (sym v.whole, e, append-nil v.begun) v.puts
