-- Numbers written one after the other: what is left to write decides what the slice holds in the end.
-- Assumes nothing. Met again where the encoder, the decoder and the listing write.
use mathlib.Core.Path.{◌≡◌, refl, sym, ap, ap₂, ◌∙◌}
use Prim.Native.Nat.{ℕ, suc, ◌+◌, ◌≤◌}
use mathlib.Core.List.{List, [], ◌∷◌, ◌++◌, append_assoc}
use native.Mathlib.Omega.{arith}
use native.Mathlib.Nat.{zero-add}
use lib.ListN.{length, set, take, drop, length-append}
use lib.Seq.{sets, length-take-le, drop_at, length-sets, sets-eq}
use Rattle.model.specs.Lists.{written_over}
use Rattle.laws.specs.Written.{numbers_at, Put}

pub numbers_none : (d : List ℕ) (at : ℕ) → numbers_at d at [] ≡ d
unfolding numbers_at
numbers_none d at = refl

pub numbers_one : (d : List ℕ) (at v : ℕ) → set d at v ≡ numbers_at d at (v ∷ [])
unfolding numbers_at
numbers_one d at v = refl

pub numbers_append : (d : List ℕ) (at : ℕ) (xs ys : List ℕ) → numbers_at d at (xs ++ ys) ≡ numbers_at (numbers_at d at xs) (at + length xs) ys
unfolding numbers_at
numbers_append d at [] ys = ap (λ (k : ℕ). sets d k ys) (omega arith)
numbers_append d at (x ∷ xs) ys =
    numbers_append (set d at x) (suc at) xs ys ∙ ap (λ (k : ℕ). sets (sets (set d at x) (suc at) xs) k ys) (omega arith)

pub length_numbers : (d : List ℕ) (at : ℕ) (xs : List ℕ) → length (numbers_at d at xs) ≡ length d
unfolding numbers_at
length_numbers d at xs = length-sets d at xs

-- Numbers written to the start of a slice: they, and then the old rest.
pub numbers_from_start : (d xs : List ℕ) → length xs ≤ length d → numbers_at d 0 xs ≡ written_over xs d
unfolding numbers_at written_over
numbers_from_start d xs h = sets-eq xs d 0 (omega arith) ∙ ap (λ (k : ℕ). xs ++ drop k d) (zero-add (length xs))

-- The same where others stand after them.
pub numbers_before : (d xs ys : List ℕ) → length (xs ++ ys) ≤ length d → numbers_at (numbers_at d (length xs) ys) 0 xs ≡ written_over (xs ++ ys) d
unfolding numbers_at written_over
numbers_before d xs ys h =
    sets-eq xs (sets d (length xs) ys) 0 (omega (arith, length-sets d (length xs) ys, size))
    ∙ ap₂ (λ (k : ℕ) (after : List ℕ). xs ++ drop k after) (zero-add (length xs)) (sets-eq ys d (length xs) (omega (arith, size)))
    ∙ ap (λ (after : List ℕ). xs ++ drop (length xs) after) (append_assoc (take (length xs) d) ys (drop (length xs + length ys) d))
    ∙ ap (λ (after : List ℕ). xs ++ after) (drop_at (take (length xs) d) _ (length xs) (length-take-le (length xs) d (omega (arith, size))))
    ∙ sym (append_assoc xs ys (drop (length xs + length ys) d))
    ∙ ap (λ (k : ℕ). (xs ++ ys) ++ drop k d) (sym size)
  where
    size : length (xs ++ ys) ≡ length xs + length ys
    size = length-append xs ys

-- Nothing is put, one number, or some numbers and then others.
pub put_nothing : {out : List ℕ} {at : ℕ} → Put [] out at out at
put_nothing {out} {at} = record { slice = sym (numbers_none out at); place = omega arith }

pub put_single : {v : ℕ} {out : List ℕ} {at : ℕ} → Put (v ∷ []) out at (set out at v) (at + 1)
put_single {v} {out} {at} = record { slice = numbers_one out at v; place = refl }

pub put_then : {xs ys d a x : List ℕ} {at place end : ℕ} → Put xs d at a place → Put ys a place x end → Put (xs ++ ys) d at x end
put_then {xs} {ys} {d} {at = at} first second = record {
  slice = second.slice ∙ rw (first.place, first.slice) (sym (numbers_append d at xs ys));
  place = omega (arith, length-append xs ys);
}

-- From the slice's start the place after the numbers says how many they are.
pub put_size : {numbers before after : List ℕ} {r : ℕ} → Put numbers before 0 after r → r ≡ length numbers
put_size put = omega arith

-- All numbers, the slice before them and the place of the first; the slice so far, the place, and the numbers that are left.
pub record Writing (numbers before : List ℕ) (start : ℕ) (out : List ℕ) (at : ℕ) (rest : List ℕ) : Type 0 where
  pub same : length out ≡ length before
  pub room : at + length rest ≡ start + length numbers
  pub left : numbers_at out at rest ≡ numbers_at before start numbers

pub writing_start : {numbers out : List ℕ} {at : ℕ} {rest : List ℕ} → rest ≡ numbers → Writing numbers out at out at rest
writing_start e = record { same = refl; room = rw e; left = rw e }

module _ {numbers before : List ℕ} {start : ℕ} {out : List ℕ} {at : ℕ} {rest : List ℕ} (v : Writing numbers before start out at rest) where
  pub writing_room : (here after : List ℕ) → rest ≡ here ++ after → start + length numbers ≤ length before → at + length here ≤ length out
  writing_room here after e fits = omega (arith, v.same, v.room, ap length e, length-append here after)

  pub writing_more : {here after out' : List ℕ} {at' : ℕ} → rest ≡ here ++ after → Put here out at out' at' → Writing numbers before start out' at' after
  writing_more {here} {after} e put = record {
    same = ap length put.slice ∙ length_numbers out at here ∙ v.same;
    room = omega (arith, v.room, ap length e, length-append here after);
    left = rw (put.slice, put.place) (sym (numbers_append out at here after) ∙ ap (numbers_at out at) (sym e) ∙ v.left);
  }

  -- The numbers that are left are put, or none is left.
  pub writing_last : {here out' : List ℕ} {at' : ℕ} → rest ≡ here → Put here out at out' at' → Put numbers before start out' at'
  writing_last e put = record { slice = put.slice ∙ ap (numbers_at out at) (sym e) ∙ v.left; place = omega (arith, v.room, ap length e) }

  pub writing_end : rest ≡ [] → Put numbers before start out at
  writing_end e = writing_last e put_nothing
