-- The walk over a thread's 4s and 5s, at record k: what is kept along the chain, and what is left.
-- Assumes nothing.
use mathlib.Core.Path.{◌≡◌, refl, sym, ap, ◌∙◌, subst}
use mathlib.Core.Logic.{◌≢◌}
use Prim.Native.Nat.{ℕ, suc, ◌+◌, ◌≤◌, ◌<◌}
use mathlib.Core.Bool.{Bool, true, cond}
use mathlib.Core.List.{List, [], ◌∷◌, ◌++◌, reverse, reverse_aux}
use native.Mathlib.Omega.{arith}
use lib.Dec.{eqb}
use lib.ListN.{length, take, replicate}
use Rattle.std.specs.Prelude.{Ok, Err}
use Rattle.model.specs.Limits.{local_count, most_constraints}
use Rattle.model.specs.CaseFile.{Line, Case, records, first_record, next_record, line_of, case_of, lines_of, item_count, line_at}
use Rattle.model.specs.Line.{Reads}
use Rattle.model.specs.Machine.{put_local, put_item}
use Rattle.model.specs.Assignment.{Assignment, assignment_of, was_run}
use Rattle.model.specs.Copies.{reads_after}
use Rattle.model.specs.Holds.{breaks_after}
use Rattle.model.specs.Table.{Row, value_row, demand_rows, value_rows}
use Rattle.laws.specs.Accepted.{Accepted, lines_from, thread_lines}
use Rattle.laws.specs.Order.{AllLines, Ordered}
use Rattle.laws.specs.RowCounts.{value_row_count}
use Rattle.laws.proofs.Views.{EqView, same, diff, eq_view}
use Rattle.laws.proofs.Chains.{threads_are}
use Rattle.laws.proofs.Lines.{numbers_once}
use Rattle.laws.proofs.LineFound.{line_found}
use Rattle.laws.proofs.Following.{lines_end, lines_more, next_low}
use Rattle.laws.proofs.Sizes.{item_numbers_lem, line_value_length}
use Rattle.case_file.specs.declared.Record.{Record}
use Rattle.case_file.specs.Records.{record_of, as_line}
use Rattle.line.specs.CaseCounts.{HasCounts}
use Rattle.line.specs.LineReads.{memory, reads_from}
use Rattle.line.specs.declared.Counts.{Counts}
use Rattle.copies.specs.CopyChains.{ThreadChains}
use Rattle.copies.proofs.CopyChains.{chains_more}
use Rattle.assignment.specs.Numbers.{record_block, record_value, StartOf}
use Rattle.search.specs.declared.Failed.{Failed}
use Rattle.search.specs.Search.{searched}
use Rattle.search.proofs.Search.{Searching, searching_start, searching_end, searching_room, searching_found, searching_more}
use Rattle.value_check.specs.declared.Asked.{Asked}
use Rattle.value_check.specs.Rows.{thread_values}
use Rattle.value_check.specs.Asking.{Asks, failing_asked}
use Rattle.value_check.specs.Breaking.{breaking_after}
use Rattle.value_check.specs.Walked.{CopyNoted, Entered, ThreadToAsk, ThreadWalked}
use Rattle.laws.proofs.Unrun.{run_within_blocks}
use Rattle.value_check.proofs.Asking.{value_asked}
use Rattle.value_check.proofs.LineRows.{then_next, line_searched}
use Rattle.value_check.proofs.Reading.{Reading, reading_start, reading_later, reading_reads, reading_more}

pub record ThreadWalk (bytes xs : List ℕ) (t start was : ℕ) (held previous locals items : List ℕ) (block broken at k : ℕ) : Type 0 where
  pub earlier : List Line
  pub low : k ≤ records bytes
  pub whole : reverse_aux (lines_from bytes t k) earlier ≡ reverse (lines_of (case_of bytes) t)
  pub found : AllLines (λ l. line_at (case_of bytes) l.number ≡ l) (lines_from bytes t k)
  pub ordered : Ordered (case_of bytes) (assignment_of (case_of bytes) xs).block t block (lines_from bytes t k)
  -- what is kept is not read after a line that was not run: no line after it was
  pub reading : was_run (case_of bytes) block ≡ true → Reading (case_of bytes) (assignment_of (case_of bytes) xs) earlier block (memory locals items (item_count (case_of bytes)))
  pub seeks : Searching bytes xs start (thread_values bytes t) at (value_rows (case_of bytes) earlier (lines_from bytes t k))
  pub chains : ThreadChains (case_of bytes) held previous t earlier
  pub breaking : breaking_after (case_of bytes) (assignment_of (case_of bytes) xs) broken earlier (lines_from bytes t k)
      ≡ breaking_after (case_of bytes) (assignment_of (case_of bytes) xs) was [] (thread_lines bytes t)

module _ {bytes xs : List ℕ} {t start : ℕ} {held₀ previous₀ : List ℕ} (ok : Accepted bytes) (pre : ThreadToAsk bytes xs t start held₀ previous₀) where
  abbrev case : Case
  case = case_of bytes

  abbrev α : Assignment
  α = assignment_of case xs

  pub walk_start : (was k : ℕ) (items : List ℕ) → k ≡ first_record bytes t → StartOf bytes xs 0 items
      → ThreadWalk bytes xs t start was held₀ previous₀ (replicate local_count 0) items 0 was start k
  walk_start was k items e starts = rw e (record {
    earlier = [];
    low = ok.firsts t pre.thread;
    whole = ap reverse (sym (threads_are bytes t pre.thread));
    found = rw (← (threads_are bytes t pre.thread)) (line_found case (numbers_once bytes ok) t);
    ordered = pre.ordered;
    reading = λ _. reading_start case α items starts (item_numbers_lem bytes ok);
    seeks = searching_start bytes xs start _ _ pre.numbers.counted refl;
    chains = pre.chains;
    breaking = refl;
  })

  module _ {was : ℕ} {held previous locals items : List ℕ} {block broken at k : ℕ}
      (v : ThreadWalk bytes xs t start was held previous locals items block broken at k) where
    module _ (e : k ≡ 0) where
      done : lines_from bytes t k ≡ []
      done = lines_end bytes t k e

      pub walk_end : Ok at ≡ searched bytes xs start (thread_values bytes t)
      unfolding value_rows
      walk_end = searching_end v.seeks (ap (value_rows case v.earlier) done)

      pub walk_notes : ThreadWalked bytes xs t was held previous broken
      unfolding breaking_after
      walk_notes = record {
        chains = subst (ThreadChains case held previous t) (sym (ap (λ (ls : List Line). reverse_aux ls v.earlier) done) ∙ v.whole) v.chains;
        breaking = sym (ap (breaking_after case α broken v.earlier) done) ∙ v.breaking;
      }

    -- One line.
    module _ (some : k ≢ 0) where
      abbrev line : Line
      line = line_of bytes t k

      abbrev rest : List Line
      rest = lines_from bytes t (next_record bytes k)

      abbrev rows : List Row
      rows = value_row case v.earlier line ∷ demand_rows line.kind case v.earlier line

      more : lines_from bytes t k ≡ line ∷ rest
      more = lines_more bytes ok t k some v.low

      in_order : Ordered case α.block t block (line ∷ rest)
      in_order = subst (Ordered case α.block t block) more v.ordered

      is_found : AllLines (λ l. line_at case l.number ≡ l) (line ∷ rest)
      is_found = subst (AllLines (λ l. line_at case l.number ≡ l)) more v.found

      split : value_rows case v.earlier (lines_from bytes t k) ≡ rows ++ value_rows case (line ∷ v.earlier) rest
      unfolding value_rows
      split = ap (value_rows case v.earlier) more

      pub walk_room : at < most_constraints
      walk_room = omega (arith, searching_room v.seeks rows _ split, pre.numbers.room)

      module _ (i : ℕ) (ei : i ≡ record_block xs k) where
        own_block : α.block line.number ≡ i
        unfolding assignment_of
        own_block = sym ei

        pub walk_block : i ≤ suc case.n
        walk_block = omega (arith, in_order.0.upto, own_block)

        -- In block i what it reads is known, if it was run: then so was the line before it.
        reading_in : {items' : List ℕ} {run : Bool} → Entered bytes xs block i items items' run → run ≡ true
            → Reading case α v.earlier i (memory locals items' (item_count case))
        reading_in {items'} entered was_run_lem = go (eq_view i block)
          where
            go : EqView i block → Reading case α v.earlier i (memory locals items' (item_count case))
            go (same e q) = rw (entered.stays e, e) (v.reading (ap (was_run case) (sym e) ∙ sym entered.asked ∙ was_run_lem))
            go (diff n q) =
                let later : block < i = omega (arith, in_order.0.from, own_block, n) in
                reading_later case α items (v.reading (run_within_blocks case block (omega (arith, later, walk_block)))) i items' later (entered.enters was_run_lem n) (item_numbers_lem bytes ok)

        -- What it is asked.
        module _ (l : Record) (el : l ≡ record_of bytes t k) (value : ℕ) (ev : value ≡ record_value xs k)
            (items' : List ℕ) (run : Bool) (entered : Entered bytes xs block i items items' run)
            (counts : Counts) (are : HasCounts bytes counts) (r : Asked)
            (asked : (k' : ℕ) (reads : Reads) → (run ≡ true → reads ≡ reads_from counts.globals counts.items value locals items' (as_line l k')) → Asks run counts.globals (as_line l k') reads value r) where
          own_value : value ≡ α.value line.number
          unfolding assignment_of
          own_value = ev

          reads_are : run ≡ true → reads_after case α v.earlier line ≡ reads_from counts.globals counts.items value locals items' (as_line l k)
          reads_are was_run_lem = sym (rw (el, are.globals, are.items) (reading_reads case α (reading_in entered was_run_lem) line own_block value own_value))

          asks : Asks (was_run case (α.block line.number)) case.G line (reads_after case α v.earlier line) (α.value line.number) r
          asks = rw (entered.asked, ← own_block, own_value, el, are.globals) at (asked k (reads_after case α v.earlier line) reads_are)

          walk_place : {n : ℕ} → n ≡ value_row_count l.kind → n ≡ length rows
          walk_place en = en ∙ ap (λ (r' : Record). value_row_count r'.kind) el ∙ sym (line_value_length line.kind case v.earlier line)

          pub walk_room_after : {n : ℕ} → n ≡ value_row_count l.kind → at + n ≤ most_constraints
          walk_room_after en = omega (arith, searching_room v.seeks rows _ split, walk_place en, pre.numbers.room)

          here : then_next (at + length rows) (failing_asked at r value) ≡ searched bytes xs at rows
          here =
              ap (λ (x : ℕ). then_next (at + length rows) (failing_asked at r x)) own_value
              ∙ line_searched bytes xs (omega (arith, item_numbers_lem bytes ok)) v.earlier line is_found.0 asks at

          pub walk_found : {f : Failed} → Err f ≡ failing_asked at r value → Err f ≡ searched bytes xs start (thread_values bytes t)
          walk_found e = searching_found v.seeks _ _ split (ap (then_next (at + length rows)) e ∙ here)

          -- The next record, with everything that is kept.
          module _ (held_both : Ok tt ≡ failing_asked at r value) (broken' : ℕ) (eb : broken' ≡ cond (eqb broken 0) (cond r.breaks k 0) broken)
              (n : ℕ) (en : n ≡ value_row_count l.kind) where
            breaks_are : r.breaks ≡ breaks_after case α v.earlier line
            breaks_are = asks.breaking (sym own_value ∙ value_asked at r value (sym held_both))

            breaking_rest : breaking_after case α broken' (line ∷ v.earlier) rest ≡ breaking_after case α was [] (thread_lines bytes t)
            unfolding breaking_after
            breaking_rest = rw (eb, breaks_are) (sym (ap (breaking_after case α broken v.earlier) more) ∙ v.breaking)

            pub walk_more : {held' previous' : List ℕ} → CopyNoted r.name k previous held previous' held'
                → (locals' items'' : List ℕ) → locals' ≡ put_local true r.name value locals
                → take counts.items items'' ≡ put_item true r.name value (take counts.items items')
                → (next : ℕ) → next ≡ next_record bytes k
                → ThreadWalk bytes xs t start was held' previous' locals' items'' i broken' (at + n) next
            walk_more noted locals' items'' elo eit next ex = rw (ex, walk_place en) (record {
              earlier = line ∷ v.earlier;
              low = next_low bytes ok t k some v.low;
              whole = whole;
              found = is_found.1;
              ordered = subst (λ (x : ℕ). Ordered case α.block t x rest) own_block in_order.1;
              reading = λ was_run_lem. rw (elo, put_items_lem, asks.naming) (reading_more case α (reading_in entered (entered.asked ∙ was_run_lem)) line own_block value own_value (omega arith));
              seeks = searching_more v.seeks _ _ split (ap (then_next (at + length rows)) held_both ∙ here);
              chains = rw (noted.notes, noted.takes, asks.naming) (chains_more bytes ok v.chains line rest whole);
              breaking = breaking_rest;
            })
              where
                put_items_lem : take (item_count case) items'' ≡ put_item true r.name value (take (item_count case) items')
                put_items_lem = rw are.items at eit

                whole : reverse_aux (line ∷ rest) v.earlier ≡ reverse (lines_of case t)
                whole = sym (ap (λ (ls : List Line). reverse_aux ls v.earlier) more) ∙ v.whole
