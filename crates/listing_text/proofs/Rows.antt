-- Numbers put on a line, and rows of six a line each: what is left of the text, as the loops meet it, and how long it is.
-- Assumes nothing. Met in the proofs of `put_line`, `put_rows` and `write_text`, and in Bridge.
use mathlib.Core.Path.{◌≡◌, refl, sym, ap}
use Prim.Native.Nat.{ℕ, suc, ◌+◌, ◌-◌, ◌*◌, ◌≤◌, ◌<◌}
use mathlib.Core.List.{List, [], ◌∷◌, ◌++◌, append_assoc}
use native.Mathlib.Omega.{arith}
use native.Mathlib.Numerals.{add-one}
use lib.ListN.{length, take, drop, get_or, length-append, drop_of_length-le}
use lib.Seq.{drop-cons}
use Rattle.model.specs.Listing.{blank, line_feed, decimal, numbers_line}
use Rattle.laws.specs.Written.{Put}
use Rattle.laws.proofs.Writing.{Writing, writing_start, writing_more, writing_last, writing_end}
use Rattle.listing_text.specs.Text.{ended, six_at, six_lines}
use Rattle.listing_text.proofs.Digits.{six_bytes}

-- A line: a number and what ends it.
line_of_one : (x : ℕ) → numbers_line (x ∷ []) ≡ ended x line_feed
unfolding numbers_line ended
line_of_one x = refl

line_goes_on : (x y : ℕ) (ys : List ℕ) → numbers_line (x ∷ (y ∷ ys)) ≡ ended x blank ++ numbers_line (y ∷ ys)
unfolding numbers_line ended
line_goes_on x y ys = sym (append_assoc (decimal x) (blank ∷ []) (numbers_line (y ∷ ys)))

pub line_size : (xs : List ℕ) → length (numbers_line xs) ≤ 6 * length xs
unfolding numbers_line
line_size [] = omega arith
line_size (x ∷ []) = omega (arith, ap length (line_of_one x), six_bytes x line_feed)
line_size (x ∷ (y ∷ ys)) =
    omega (
      arith,
      ap length (line_goes_on x y ys),
      length-append (ended x blank) (numbers_line (y ∷ ys)),
      six_bytes x blank,
      line_size (y ∷ ys),
    )

-- The loop over a line's numbers, at number j: the place is within six bytes for each number passed.
pub record Lining (xs : List ℕ) (start last : ℕ) (d : List ℕ) (at j : ℕ) (out : List ℕ) : Type 0 where
  pub upto : j ≤ last
  pub whole : last + 1 ≡ length xs
  pub near : at ≤ start + 6 * j
  pub writes : Writing (numbers_line xs) d start out at (numbers_line (drop j xs))

pub lining_start : (xs : List ℕ) (start last : ℕ) (d : List ℕ) → last + 1 ≡ length xs → Lining xs start last d start 0 d
lining_start xs start last d h = record { upto = omega arith; whole = h; near = omega arith; writes = writing_start refl }

line_more : (xs : List ℕ) (j : ℕ) → j + 1 < length xs → numbers_line (drop j xs) ≡ ended (get_or xs j 0) blank ++ numbers_line (drop (j + 1) xs)
line_more xs j h =
    rw (add-one j, drop-cons xs j 0 (omega arith), drop-cons xs (suc j) 0 (omega arith))
    (line_goes_on (get_or xs j 0) (get_or xs (suc j) 0) (drop (suc (suc j)) xs))

line_last : (xs : List ℕ) (last : ℕ) → last + 1 ≡ length xs → numbers_line (drop last xs) ≡ ended (get_or xs last 0) line_feed
line_last xs last h =
    rw (drop-cons xs last 0 (omega arith), drop_of_length-le xs {i = suc last} (omega arith))
    (line_of_one (get_or xs last 0))

module _ {xs : List ℕ} {start last : ℕ} {d : List ℕ} {at j : ℕ} {out : List ℕ} (v : Lining xs start last d at j out) where
  pub lining_more : j < last → {a : List ℕ} {place : ℕ} → Put (ended (get_or xs j 0) blank) out at a place → Lining xs start last d place (j + 1) a
  lining_more h put = record {
    upto = omega arith;
    whole = v.whole;
    near = omega (arith, six_bytes (get_or xs j 0) blank);
    writes = writing_more v.writes (line_more xs j (omega (arith, v.whole))) put;
  }

  pub lining_end : last ≤ j → {a : List ℕ} {place : ℕ} → Put (ended (get_or xs last 0) line_feed) out at a place → Put (numbers_line xs) d start a place
  lining_end h put = let same : j ≡ last = omega (arith, v.upto) in writing_last v.writes (rw same (line_last xs last v.whole)) put

-- The loop over the rows, at row i: the place is within 36 bytes for each row passed.
pub record Rowing (xs : List ℕ) (start count : ℕ) (d : List ℕ) (at i : ℕ) (out : List ℕ) : Type 0 where
  pub upto : i ≤ count
  pub near : at ≤ start + 36 * i
  pub writes : Writing (six_lines xs 0 count) d start out at (six_lines xs (6 * i) (count - i))

pub rowing_start : (xs : List ℕ) (start count : ℕ) (d : List ℕ) → Rowing xs start count d start 0 d
rowing_start xs start count d =
    let all : count - 0 ≡ count = omega arith in
    record { upto = omega arith; near = omega arith; writes = writing_start (rw all) }

rows_more : (xs : List ℕ) (i many : ℕ) → i < many → six_lines xs (6 * i) (many - i) ≡ numbers_line (six_at xs (6 * i)) ++ six_lines xs (6 * (i + 1)) (many - (i + 1))
unfolding six_lines
rows_more xs i many h =
    let one : many - i ≡ suc (many - (i + 1)) = omega arith in
    let next : 6 * i + 6 ≡ 6 * (i + 1) = omega arith in
    rw (one, next)

no_more_rows : (xs : List ℕ) (i many : ℕ) → many ≤ i → six_lines xs (6 * i) (many - i) ≡ []
unfolding six_lines
no_more_rows xs i many h = let none : many - i ≡ 0 = omega arith in rw none

module _ {xs : List ℕ} {start count : ℕ} {d : List ℕ} {at i : ℕ} {out : List ℕ} (v : Rowing xs start count d at i out) where
  pub rowing_more : i < count → {a : List ℕ} {place : ℕ} → Put (numbers_line (six_at xs (6 * i))) out at a place → Rowing xs start count d place (i + 1) a
  rowing_more h put = record {
    upto = omega arith;
    near = omega (arith, line_size (six_at xs (6 * i)));
    writes = writing_more v.writes (rows_more xs i count h) put;
  }

  pub rowing_end : count ≤ i → Put (six_lines xs 0 count) d start out at
  rowing_end h = writing_end v.writes (no_more_rows xs i count h)

-- A row's six numbers, as the table has them.
pub six_taken : (xs : List ℕ) (from : ℕ) → from + 6 ≤ length xs → take 6 (drop from xs) ≡ six_at xs from
six_taken xs from h =
    let two : from + 2 ≡ suc (suc from) = omega arith in
    let three : from + 3 ≡ suc (suc (suc from)) = omega arith in
    let four : from + 4 ≡ suc (suc (suc (suc from))) = omega arith in
    let five : from + 5 ≡ suc (suc (suc (suc (suc from)))) = omega arith in
    rw (
      drop-cons xs from 0 (omega arith),
      drop-cons xs (suc from) 0 (omega arith),
      drop-cons xs (suc (suc from)) 0 (omega arith),
      drop-cons xs (suc (suc (suc from))) 0 (omega arith),
      drop-cons xs (suc (suc (suc (suc from)))) 0 (omega arith),
      drop-cons xs (suc (suc (suc (suc (suc from))))) 0 (omega arith),
      add-one from,
      two,
      three,
      four,
      five,
    )
