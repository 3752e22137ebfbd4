-- Noting the rows of a table, one by one. Assumes nothing. Met again in `note_row` and `note_rows`.
use mathlib.Core.Path.{◌≡◌, refl, sym, ap, ◌∙◌}
use mathlib.Core.Logic.{◌≢◌}
use Prim.Native.Nat.{ℕ, suc, ◌+◌, ◌-◌, ◌*◌, ◌≤◌, ◌<◌}
use mathlib.Core.Bool.{Bool, true, false, cond}
use mathlib.Core.List.{List}
use native.Mathlib.Omega.{arith}
use native.Mathlib.Numerals.{add-one}
use borrow.Author.Tests.{eq-eqb, ne_eqb}
use lib.Dec.{eqb}
use lib.ListN.{length, get_or, set, replicate, length-set, length-replicate}
use lib.Seq.{set_out}
use Rattle.model.specs.Limits.{record_places}
use Rattle.walk_text.specs.Previous.{noted, noted_row, noted_from}

-- ---- A row of another kind, a row of a line, and a row of what is no record

module _ (which place : ℕ) (xs notes : List ℕ) (j : ℕ) {kind : ℕ} (k : kind ≡ get_or xs (6 * j) 0) where
  pub other_row : kind ≢ which → notes ≡ noted_row which place xs j notes
  unfolding noted_row noted
  other_row n = rw (← k, ne_eqb kind which n)

  module _ (this : kind ≡ which) {line : ℕ} (e : line ≡ get_or xs (6 * j + 1) 0) where
    pub own_row : {number : ℕ} → number ≡ get_or xs (6 * j + place) 0 → set notes line number ≡ noted_row which place xs j notes
    unfolding noted_row noted
    own_row c = rw (← k, eq-eqb kind which this, e, c)

    pub far_row : length notes ≤ line → notes ≡ noted_row which place xs j notes
    unfolding noted_row noted
    far_row far = rw (← k, eq-eqb kind which this, ← e) (sym (set_out notes line _ far))

module _ (which place : ℕ) (xs : List ℕ) where
  row_places : (notes : List ℕ) (j : ℕ) → length (noted_row which place xs j notes) ≡ length notes
  unfolding noted_row noted
  row_places notes j = go (eqb (get_or xs (6 * j) 0) which)
    where
      go : (this : Bool) → length (cond this (set notes (get_or xs (6 * j + 1) 0) (get_or xs (6 * j + place) 0)) notes) ≡ length notes
      go true = length-set notes _ _
      go false = refl

-- ---- The loop over the rows, before row j

pub record Noting (which place : ℕ) (xs : List ℕ) (count j : ℕ) (notes : List ℕ) : Type 0 where
  pub upto : j ≤ count
  pub places : length notes ≡ record_places
  pub left : noted_from which place xs j (count - j) notes ≡ noted_from which place xs 0 count (replicate record_places 0)

module _ {which place : ℕ} {xs : List ℕ} {count : ℕ} where
  pub noting_start : Noting which place xs count 0 (replicate record_places 0)
  noting_start = let all : count - 0 ≡ count = omega arith in record { upto = omega arith; places = length-replicate {A = ℕ} record_places 0; left = rw all }

  module _ {j : ℕ} {notes : List ℕ} (v : Noting which place xs count j notes) where
    pub noting_more : j < count → {notes' : List ℕ} → notes' ≡ noted_row which place xs j notes → Noting which place xs count (j + 1) notes'
    unfolding noted_from
    noting_more h e =
        let z : count - j ≡ suc (count - (j + 1)) = omega arith in
        record {
          upto = omega arith;
          places = ap length e ∙ row_places which place xs notes j ∙ v.places;
          left = rw (add-one j, e) (rw (z, add-one j) at v.left);
        }

    pub noting_end : count ≤ j → notes ≡ noted_from which place xs 0 count (replicate record_places 0)
    unfolding noted_from
    noting_end h = let z : count - j ≡ 0 = omega arith in rw z at v.left
