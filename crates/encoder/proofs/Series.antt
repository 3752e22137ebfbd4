-- A count of parts, of threads, blocks or items, that writes the numbers of each.
-- Assumes nothing.
use mathlib.Core.Path.{◌≡◌}
use Prim.Native.Nat.{ℕ, ◌+◌, ◌≤◌, ◌<◌}
use mathlib.Core.List.{List, [], ◌++◌}
use native.Mathlib.Omega.{arith}
use lib.ListN.{length}
use Rattle.laws.specs.Written.{Put}
use Rattle.laws.proofs.Writing.{Writing, writing_start, writing_room, writing_more, writing_end}

-- The numbers of the parts from part i on, those of part i, and how many parts there are.
pub record Series : Type 0 where
  pub from : ℕ → List ℕ
  pub here : ℕ → List ℕ
  pub to : ℕ
  pub more : (i : ℕ) → i < to → from i ≡ here i ++ from (i + 1)
  pub none : (i : ℕ) → to ≤ i → from i ≡ []

-- At part i: all numbers, the slice before them and the place of the first; the slice so far and the place.
pub record Going (s : Series) (i : ℕ) (numbers before : List ℕ) (start : ℕ) (out : List ℕ) (at : ℕ) : Type 0 where
  pub upto : i ≤ s.to
  pub writes : Writing numbers before start out at (s.from i)

pub going_start : {s : Series} {numbers out : List ℕ} {at : ℕ} → s.from 0 ≡ numbers → Going s 0 numbers out at out at
going_start e = record { upto = omega arith; writes = writing_start e }

module _ {s : Series} {i : ℕ} {numbers before : List ℕ} {start : ℕ} {out : List ℕ} {at : ℕ} (v : Going s i numbers before start out at) where
  pub going_fits : i < s.to → start + length numbers ≤ length before → at + length (s.here i) ≤ length out
  going_fits h fits = writing_room v.writes (s.here i) (s.from (i + 1)) (s.more i h) fits

  pub going_more : i < s.to → {out' : List ℕ} {at' : ℕ} → Put (s.here i) out at out' at' → Going s (i + 1) numbers before start out' at'
  going_more h put = record { upto = omega arith; writes = writing_more v.writes (s.more i h) put }

  pub going_end : s.to ≤ i → Put numbers before start out at
  going_end h = writing_end v.writes (s.none i h)
