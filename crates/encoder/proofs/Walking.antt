-- A walk along a thread's lines that writes the rows of each line, the order rows or the others.
-- Assumes nothing.
use mathlib.Core.Path.{◌≡◌, refl, sym, ap, ◌∙◌}
use mathlib.Core.Logic.{◌≢◌}
use Prim.Native.Nat.{ℕ, ◌+◌, ◌*◌, ◌≤◌, ◌<◌}
use mathlib.Core.List.{List, [], ◌∷◌, ◌++◌, reverse, reverse_aux}
use native.Mathlib.Omega.{arith}
use lib.ListN.{length}
use Rattle.model.specs.CaseFile.{Line, Case, records, thread_count, first_record, next_record, line_of}
use Rattle.model.specs.Table.{Row, line_order_rows, order_rows, value_row, demand_rows, value_rows, numbers_of}
use Rattle.laws.specs.Accepted.{Accepted, lines_from, thread_lines}
use Rattle.laws.specs.RowCounts.{order_row_count, is_first, value_row_count}
use Rattle.laws.specs.Written.{Put}
use Rattle.laws.proofs.Following.{lines_end, lines_more, next_low}
use Rattle.laws.proofs.RowNumbers.{numbers_of_append}
use Rattle.laws.proofs.Sizes.{six_a_row, line_order_length, line_value_length}
use Rattle.laws.proofs.Writing.{Writing, writing_start, writing_more, writing_end, writing_room}

-- The rows of lines after these earlier lines, latest first: all of them, those of the first line, and how many these are.
pub record LineRows : Type 0 where
  pub all : List Line → List Line → List Row
  pub here : List Line → Line → List Line → List Row
  pub count : List Line → Line → ℕ
  pub none : (earlier : List Line) → all earlier [] ≡ []
  pub more : (earlier : List Line) (l : Line) (ls : List Line) → all earlier (l ∷ ls) ≡ here earlier l ls ++ all (l ∷ earlier) ls
  pub size : (earlier : List Line) (l : Line) (ls : List Line) → length (here earlier l ls) ≡ count earlier l

pub no_order : (case : Case) (t : ℕ) (earlier : List Line) → order_rows case t earlier [] ≡ []
unfolding order_rows
no_order case t earlier = refl

pub more_order : (case : Case) (t : ℕ) (earlier : List Line) (l : Line) (ls : List Line)
    → order_rows case t earlier (l ∷ ls) ≡ line_order_rows case t earlier l ls ++ order_rows case t (l ∷ earlier) ls
unfolding order_rows
more_order case t earlier l ls = refl

-- The 3s, 8s, 1s and 2s of thread t.
abbrev pub orders : Case → ℕ → LineRows
orders case t = record {
  all = order_rows case t;
  here = line_order_rows case t;
  count = λ earlier l. order_row_count (is_first earlier) l.kind;
  none = no_order case t;
  more = more_order case t;
  size = line_order_length case t;
}

pub no_values : (case : Case) (earlier : List Line) → value_rows case earlier [] ≡ []
unfolding value_rows
no_values case earlier = refl

pub more_values : (case : Case) (earlier : List Line) (l : Line) (ls : List Line)
    → value_rows case earlier (l ∷ ls) ≡ (value_row case earlier l ∷ demand_rows l.kind case earlier l) ++ value_rows case (l ∷ earlier) ls
unfolding value_rows
more_values case earlier l ls = refl

-- The 4s and 5s.
abbrev pub values : Case → LineRows
values case = record {
  all = value_rows case;
  here = λ earlier l ls. value_row case earlier l ∷ demand_rows l.kind case earlier l;
  count = λ earlier l. value_row_count l.kind;
  none = no_values case;
  more = more_values case;
  size = λ earlier l ls. line_value_length l.kind case earlier l;
}

module _ (bytes : List ℕ) (t : ℕ) (rows : LineRows) where
  -- At record k, after some lines of which this is known: all numbers, the slice before them and the place of the first; the slice
  -- so far and the place.
  pub record Walking (Known : List Line → Type 0) (k : ℕ) (numbers before : List ℕ) (start : ℕ) (out : List ℕ) (at : ℕ) : Type 0 where
    pub earlier : List Line
    pub low : k ≤ records bytes
    pub whole : reverse_aux (lines_from bytes t k) earlier ≡ reverse (thread_lines bytes t)
    pub known : Known earlier
    pub writes : Writing numbers before start out at (numbers_of (rows.all earlier (lines_from bytes t k)))

pub walking_start :
    {bytes : List ℕ} {t : ℕ} {rows : LineRows} {Known : List Line → Type 0} {k : ℕ} {numbers out : List ℕ} {at : ℕ}
    → Accepted bytes → t < thread_count bytes → k ≡ first_record bytes t → Known [] → numbers_of (rows.all [] (thread_lines bytes t)) ≡ numbers
    → Walking bytes t rows Known k numbers out at out at
walking_start {t = t} ok few e known all = record {
  earlier = [];
  low = omega (arith, ok.firsts t few);
  whole = rw e;
  known = known;
  writes = writing_start (rw e all);
}

module _ {bytes : List ℕ} {t : ℕ} {rows : LineRows} {Known : List Line → Type 0} {k : ℕ} {numbers before : List ℕ} {start : ℕ} {out : List ℕ} {at : ℕ}
    (v : Walking bytes t rows Known k numbers before start out at) where
  pub walking_end : k ≡ 0 → Put numbers before start out at
  unfolding numbers_of
  walking_end z = writing_end v.writes (ap (λ (ls : List Line). numbers_of (rows.all v.earlier ls)) (lines_end bytes t k z) ∙ ap numbers_of (rows.none v.earlier))

  pub walking_whole : k ≡ 0 → v.earlier ≡ reverse (thread_lines bytes t)
  walking_whole z = sym (ap (λ (ls : List Line). reverse_aux ls v.earlier) (lines_end bytes t k z)) ∙ v.whole

  module _ (ok : Accepted bytes) (some : k ≢ 0) where
    abbrev line : Line
    line = line_of bytes t k

    abbrev rest : List Line
    rest = lines_from bytes t (next_record bytes k)

    abbrev here : List ℕ
    here = numbers_of (rows.here v.earlier line rest)

    abbrev after : List ℕ
    after = numbers_of (rows.all (line ∷ v.earlier) rest)

    goes_on : lines_from bytes t k ≡ line ∷ rest
    goes_on = lines_more bytes ok t k some v.low

    split : numbers_of (rows.all v.earlier (lines_from bytes t k)) ≡ here ++ after
    split =
        ap (λ (ls : List Line). numbers_of (rows.all v.earlier ls)) goes_on
        ∙ ap numbers_of (rows.more v.earlier line rest) ∙ numbers_of_append (rows.here v.earlier line rest) (rows.all (line ∷ v.earlier) rest)

    pub walking_width : length here ≡ 6 * rows.count v.earlier line
    walking_width = omega (arith, six_a_row (rows.here v.earlier line rest), rows.size v.earlier line rest)

    pub walking_room : start + length numbers ≤ length before → at + 6 * rows.count v.earlier line ≤ length out
    walking_room fits = omega (arith, writing_room v.writes here after split fits, walking_width)

    pub walking_more :
        {Known' : List Line → Type 0} {next : ℕ} {out' : List ℕ} {at' : ℕ} → next ≡ next_record bytes k → Known' (line ∷ v.earlier)
        → Put here out at out' at' → Walking bytes t rows Known' next numbers before start out' at'
    walking_more e known put = rw e (record {
      earlier = line ∷ v.earlier;
      low = next_low bytes ok t k some v.low;
      whole = sym (ap (λ (ls : List Line). reverse_aux ls v.earlier) goes_on) ∙ v.whole;
      known = known;
      writes = writing_more v.writes split put;
    })
