-- Looking for the first constraint that fails, one after the other: what is left decides what is found.
-- Assumes nothing. Met again in every loop over constraints, as its invariant.
use mathlib.Core.Path.{◌≡◌, refl, sym, ap, ◌∙◌}
use Prim.Native.Nat.{ℕ, zero, suc, ◌+◌, ◌≤◌, ◌<◌}
use mathlib.Core.Bool.{Bool, true, false, cond}
use mathlib.Core.List.{List, [], ◌∷◌, ◌++◌}
use native.Mathlib.Omega.{arith}
use lib.ListN.{length, length-append}
use Rattle.std.specs.Prelude.{Ok, Err}
use Rattle.model.specs.CaseFile.{case_of}
use Rattle.model.specs.Assignment.{assignment_of}
use Rattle.model.specs.Table.{Row}
use Rattle.model.specs.Holds.{holds, first_failing}
use Rattle.laws.specs.AllHold.{AllHold}
use Rattle.search.specs.declared.Failed.{Failed}
use Rattle.search.specs.Search.{searched, unless_fails, Room}

module _ (bytes xs : List ℕ) where
  -- What is found is the model's first constraint that fails; where all hold, the next number comes after them.
  pub searched_is : (k : ℕ) (rows : List Row) → 0 < k
      → searched bytes xs k rows ≡ unless_fails (first_failing (case_of bytes) (assignment_of (case_of bytes) xs) k rows) (k + length rows)
  unfolding searched unless_fails first_failing
  searched_is k [] h = ap Ok (omega arith)
  searched_is k (w ∷ rows) h = go k h (holds (case_of bytes) (assignment_of (case_of bytes) xs) w) (searched_is (suc k) rows (omega arith))
    where
      go : (k : ℕ) → 0 < k → (q : Bool)
          → searched bytes xs (suc k) rows ≡ unless_fails (first_failing (case_of bytes) (assignment_of (case_of bytes) xs) (suc k) rows) (suc k + length rows)
          → cond q (searched bytes xs (suc k) rows) (Err (record { constraint = k }))
          ≡ unless_fails (cond q (first_failing (case_of bytes) (assignment_of (case_of bytes) xs) (suc k) rows) k) (k + suc (length rows))
      go k some true rest = rest ∙ ap (unless_fails (first_failing (case_of bytes) (assignment_of (case_of bytes) xs) (suc k) rows)) (omega arith)
      go zero some false rest = absurd (omega arith)
      go (suc k) some false rest = refl

  module _ {n : ℕ} where
    -- Where all hold.
    pub searched_next : (k : ℕ) (rows : List Row) → searched bytes xs k rows ≡ Ok n → n ≡ k + length rows
    unfolding searched
    searched_next k [] e = let z : n ≡ k = cc in omega (arith, z)
    searched_next k (w ∷ rows) e = go (holds (case_of bytes) (assignment_of (case_of bytes) xs) w) e (searched_next (suc k) rows)
      where
        go : (q : Bool) → cond q (searched bytes xs (suc k) rows) (Err (record { constraint = k })) ≡ Ok n
            → (searched bytes xs (suc k) rows ≡ Ok n → n ≡ suc k + length rows) → n ≡ k + suc (length rows)
        go true e rest = omega (arith, rest e)
        go false e rest = absurd cc

    pub searched_all : (k : ℕ) (rows : List Row) → searched bytes xs k rows ≡ Ok n → AllHold (case_of bytes) (assignment_of (case_of bytes) xs) rows
    unfolding searched
    searched_all k [] e = tt
    searched_all k (w ∷ rows) e = go (holds (case_of bytes) (assignment_of (case_of bytes) xs) w) refl e (searched_all (suc k) rows)
      where
        go : (q : Bool) → holds (case_of bytes) (assignment_of (case_of bytes) xs) w ≡ q
            → cond q (searched bytes xs (suc k) rows) (Err (record { constraint = k })) ≡ Ok n
            → (searched bytes xs (suc k) rows ≡ Ok n → AllHold (case_of bytes) (assignment_of (case_of bytes) xs) rows)
            → AllHold (case_of bytes) (assignment_of (case_of bytes) xs) (w ∷ rows)
        go true held e rest = (held, rest e)
        go false held e rest = absurd cc

    past_those_that_hold : (k : ℕ) (rows later : List Row) → searched bytes xs k rows ≡ Ok n → searched bytes xs k (rows ++ later) ≡ searched bytes xs n later
    unfolding searched
    past_those_that_hold k [] later e = cc
    past_those_that_hold k (w ∷ rows) later e = go (holds (case_of bytes) (assignment_of (case_of bytes) xs) w) e (past_those_that_hold (suc k) rows later)
      where
        go : (q : Bool) → cond q (searched bytes xs (suc k) rows) (Err (record { constraint = k })) ≡ Ok n
            → (searched bytes xs (suc k) rows ≡ Ok n → searched bytes xs (suc k) (rows ++ later) ≡ searched bytes xs n later)
            → cond q (searched bytes xs (suc k) (rows ++ later)) (Err (record { constraint = k })) ≡ searched bytes xs n later
        go true e rest = rest e
        go false e rest = absurd cc

  before_those_that_follow : {f : Failed} (k : ℕ) (rows later : List Row) → searched bytes xs k rows ≡ Err f → searched bytes xs k (rows ++ later) ≡ Err f
  unfolding searched
  before_those_that_follow {f} k [] later e = absurd cc
  before_those_that_follow {f} k (w ∷ rows) later e = go (holds (case_of bytes) (assignment_of (case_of bytes) xs) w) e (before_those_that_follow {f = f} (suc k) rows later)
    where
      go : (q : Bool) → cond q (searched bytes xs (suc k) rows) (Err (record { constraint = k })) ≡ Err f
          → (searched bytes xs (suc k) rows ≡ Err f → searched bytes xs (suc k) (rows ++ later) ≡ Err f)
          → cond q (searched bytes xs (suc k) (rows ++ later)) (Err (record { constraint = k })) ≡ Err f
      go true e rest = rest e
      go false e rest = e

-- The number of the next constraint and the constraints that are left, of a walk over these rows.
pub record Searching (bytes xs : List ℕ) (start : ℕ) (rows : List Row) (at : ℕ) (rest : List Row) : Type 0 where
  pub some : 0 < at
  pub left : searched bytes xs at rest ≡ searched bytes xs start rows
  pub room : at + length rest ≡ start + length rows

pub searching_start : (bytes xs : List ℕ) (start : ℕ) (rows rest : List Row) → 0 < start → rest ≡ rows → Searching bytes xs start rows start rest
searching_start bytes xs start rows rest h e = record { some = h; left = rw e; room = rw e }

module _ {bytes xs : List ℕ} {start : ℕ} {rows : List Row} {at : ℕ} {rest : List Row} (v : Searching bytes xs start rows at rest) where
  -- none is left
  pub searching_end : rest ≡ [] → Ok at ≡ searched bytes xs start rows
  unfolding searched
  searching_end e = sym (ap (searched bytes xs at) e) ∙ v.left

  pub searching_room : (now later : List Row) → rest ≡ now ++ later → at + length now ≤ start + length rows
  searching_room now later e = omega (arith, v.room, ap length e, length-append now later)

  pub searching_fits : Room start rows → (now later : List Row) → rest ≡ now ++ later → Room at now
  searching_fits fits now later e = record { counted = v.some; room = omega (arith, fits.room, searching_room now later e) }

  -- some at once
  module _ (now later : List Row) (split : rest ≡ now ++ later) where
    pub searching_found : {f : Failed} → Err f ≡ searched bytes xs at now → Err f ≡ searched bytes xs start rows
    searching_found e = sym (before_those_that_follow bytes xs at now later (sym e)) ∙ ap (searched bytes xs at) (sym split) ∙ v.left

    pub searching_more : {next : ℕ} → Ok next ≡ searched bytes xs at now → Searching bytes xs start rows next later
    searching_more {next} e =
        let after : next ≡ at + length now = searched_next bytes xs at now (sym e) in
        record {
          some = omega (arith, v.some, after);
          left = sym (past_those_that_hold bytes xs at now later (sym e)) ∙ ap (searched bytes xs at) (sym split) ∙ v.left;
          room = omega (arith, v.room, after, ap length split, length-append now later);
        }

-- one constraint, by whether it holds
module _ (bytes xs : List ℕ) (at : ℕ) (w : Row) (q : Bool) (e : q ≡ holds (case_of bytes) (assignment_of (case_of bytes) xs) w) where
  pub one_holds : q ≡ true → Ok (at + 1) ≡ searched bytes xs at (w ∷ [])
  unfolding searched
  one_holds z = rw (← e, z) (ap Ok (omega arith))

  pub one_fails : q ≡ false → Err (record { constraint = at }) ≡ searched bytes xs at (w ∷ [])
  unfolding searched
  one_fails z = rw (← e, z)

-- by the number of the first that fails, whatever else comes of it
module _ {T U : Type 0} where
  pub fails_alike : (n : ℕ) (x : T) (y : U) {f : Failed} → Err f ≡ unless_fails n x → Err f ≡ unless_fails n y
  unfolding unless_fails
  fails_alike zero x y e = absurd cc
  fails_alike (suc n) x y e = cc

  pub holds_alike : (n : ℕ) (x x' : T) (y : U) → Ok x' ≡ unless_fails n x → Ok y ≡ unless_fails n y
  unfolding unless_fails
  holds_alike zero x x' y e = refl
  holds_alike (suc n) x x' y e = absurd cc
