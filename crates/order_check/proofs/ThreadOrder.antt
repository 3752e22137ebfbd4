-- The order constraints of a thread, line by line, and those of all threads.
-- Assumes nothing.
use mathlib.Core.Path.{◌≡◌, refl, ap, ◌∙◌}
use mathlib.Core.Logic.{◌≢◌}
use Prim.Native.Nat.{ℕ, ◌+◌, ◌-◌, ◌≤◌, ◌<◌}
use mathlib.Core.List.{List, [], ◌∷◌, ◌++◌}
use native.Mathlib.Omega.{arith}
use native.Mathlib.Numerals.{add-one}
use borrow.Author.Tests.{ne_eqb}
use Rattle.std.specs.Prelude.{Ok, Err}
use Rattle.model.specs.Limits.{most_constraints}
use Rattle.model.specs.CaseFile.{kind_of, Line, records, record_field, thread_count, first_record, next_record, line_of, chains, case_of}
use Rattle.model.specs.declared.Kind.{Kind}
use Rattle.model.specs.Table.{follow_row, stay_rows, line_order_rows, order_rows, all_order_rows}
use Rattle.laws.specs.Accepted.{Accepted, lines_from}
use Rattle.laws.proofs.Views.{EqView, same, diff, eq_view}
use Rattle.laws.proofs.Following.{lines_end, lines_more, next_low, chains_more, chains_end}
use Rattle.laws.proofs.Sizes.{order_rows_lem}
use Rattle.search.specs.declared.Failed.{Failed}
use Rattle.search.specs.Search.{searched}
use Rattle.search.proofs.Search.{Searching, searching_start, searching_end, searching_room, searching_found, searching_more}
use Rattle.order_check.specs.Rows.{neighbour, link_rows, thread_orders, all_orders, ThreadReady}
use Rattle.case_file.specs.declared.Link.{Link}

-- ---- A thread, at record k, after record `before`

pub record ThreadOrder (bytes xs : List ℕ) (t start at before k : ℕ) : Type 0 where
  pub earlier : List Line
  pub behind : (l : Line) → stay_rows earlier l ≡ stay_rows (neighbour bytes t before) l
  pub low : k ≤ records bytes
  pub seeks : Searching bytes xs start (thread_orders bytes t) at (order_rows (case_of bytes) t earlier (lines_from bytes t k))

module _ {bytes : List ℕ} {t start : ℕ} (ok : Accepted bytes) (ready : ThreadReady bytes t start) (xs : List ℕ) where
  pub thread_start : (k : ℕ) → k ≡ first_record bytes t → ThreadOrder bytes xs t start start 0 k
  thread_start k e = record {
    earlier = [];
    behind = λ l. refl;
    low = omega (arith, ok.firsts t ready.thread);
    seeks = searching_start bytes xs start _ _ ready.numbers.counted (ap (λ (j : ℕ). order_rows (case_of bytes) t [] (lines_from bytes t j)) e);
  }

  module _ {at before k : ℕ} (v : ThreadOrder bytes xs t start at before k) where
    pub thread_end : k ≡ 0 → Ok at ≡ searched bytes xs start (thread_orders bytes t)
    unfolding order_rows
    thread_end e = searching_end v.seeks (ap (order_rows (case_of bytes) t v.earlier) (lines_end bytes t k e))

    module _ (some : k ≢ 0) {next : ℕ} {kind : Kind} (en : next ≡ next_record bytes k) (ek : kind ≡ kind_of (record_field bytes k 1)) where
      abbrev link : Link
      link = record { before = before; line = k; kind = kind; next = next }

      -- the rows of a line are those of its link
      by_link : line_order_rows (case_of bytes) t v.earlier (line_of bytes t k) (lines_from bytes t next) ≡ link_rows bytes t link
      unfolding line_order_rows follow_row
      by_link = go (eq_view next 0)
        where
          go : EqView next 0 → line_order_rows (case_of bytes) t v.earlier (line_of bytes t k) (lines_from bytes t next) ≡ link_rows bytes t link
          go (same z q) = rw (v.behind (line_of bytes t k), q, lines_end bytes t next z)
          go (diff z q) = rw (v.behind (line_of bytes t k), q, lines_more bytes ok t next z (omega (arith, next_low bytes ok t k some v.low)))

      split : order_rows (case_of bytes) t v.earlier (lines_from bytes t k)
          ≡ link_rows bytes t link ++ order_rows (case_of bytes) t (line_of bytes t k ∷ v.earlier) (lines_from bytes t next)
      unfolding order_rows
      split = ap (order_rows (case_of bytes) t v.earlier) (lines_more bytes ok t k some v.low) ∙ rw (← en, by_link)

      pub thread_number : at < most_constraints
      unfolding line_order_rows
      thread_number = omega (arith, searching_room v.seeks (link_rows bytes t link) _ split, ready.numbers.room)

      pub thread_found : {f : Failed} → Err f ≡ searched bytes xs at (link_rows bytes t link) → Err f ≡ searched bytes xs start (thread_orders bytes t)
      thread_found found = searching_found v.seeks _ _ split found

      pub thread_more : {at' : ℕ} → Ok at' ≡ searched bytes xs at (link_rows bytes t link) → ThreadOrder bytes xs t start at' k next
      unfolding stay_rows
      thread_more found = record {
        earlier = line_of bytes t k ∷ v.earlier;
        behind = λ l. rw (ne_eqb k 0 some);
        low = omega (arith, next_low bytes ok t k some v.low);
        seeks = searching_more v.seeks _ _ split found;
      }

-- ---- The threads from t on

pub record AllOrder (bytes xs : List ℕ) (to at t : ℕ) : Type 0 where
  pub upto : t ≤ to
  pub seeks : Searching bytes xs 1 (all_orders bytes) at (all_order_rows (case_of bytes) t (chains bytes t (to - t)))

module _ (bytes xs : List ℕ) (to : ℕ) (e_t : to ≡ thread_count bytes) where
  pub all_start : AllOrder bytes xs to 1 0
  all_start =
      let z : to - 0 ≡ thread_count bytes = omega arith in
      record { upto = omega arith; seeks = searching_start bytes xs 1 _ _ (omega arith) (rw z) }

  module _ {at t : ℕ} (v : AllOrder bytes xs to at t) where
    pub all_end : to ≤ t → Ok at ≡ searched bytes xs 1 (all_orders bytes)
    unfolding all_order_rows
    all_end h = searching_end v.seeks (ap (all_order_rows (case_of bytes) t) (chains_end bytes t to h))

    module _ (h : t < to) where
      threads_split : all_order_rows (case_of bytes) t (chains bytes t (to - t)) ≡ thread_orders bytes t ++ all_order_rows (case_of bytes) (t + 1) (chains bytes (t + 1) (to - (t + 1)))
      unfolding all_order_rows
      threads_split = rw (chains_more bytes t to h, add-one t)

      pub all_ready : Accepted bytes → ThreadReady bytes t at
      all_ready ok = record {
        thread = omega arith;
        numbers = record { counted = v.seeks.some; room = omega (arith, searching_room v.seeks (thread_orders bytes t) _ threads_split, order_rows_lem bytes ok) };
      }

      pub all_found : {f : Failed} → Err f ≡ searched bytes xs at (thread_orders bytes t) → Err f ≡ searched bytes xs 1 (all_orders bytes)
      all_found found = searching_found v.seeks _ _ threads_split found

      pub all_more : {next : ℕ} → Ok next ≡ searched bytes xs at (thread_orders bytes t) → AllOrder bytes xs to next (t + 1)
      all_more found = record { upto = omega arith; seeks = searching_more v.seeks _ _ threads_split found }
