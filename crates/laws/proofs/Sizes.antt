-- How large an accepted case can be, and its table, an assignment, a schedule and the items. Whoever calls can lend slices of
-- these sizes, and refusal 10 never meets them.
-- Assumes nothing. Met again where encoder, checker and schedule count, in the listing's text, and in delivered's Delivered.
use Rattle.std.specs.Prelude.{Ok, Err}
use mathlib.Core.Path.{◌≡◌, refl}
use mathlib.Core.Logic.{◌≢◌}
use Prim.Native.Nat.{ℕ, zero, suc, ◌+◌, ◌-◌, ◌*◌, ◌%◌, ◌≤◌, ◌<◌}
use mathlib.Core.Bool.{Bool, true, false, cond, not}
use mathlib.Core.List.{List, [], ◌∷◌, ◌++◌, reverse}
use native.Mathlib.Omega.{arith}
use native.Mathlib.Nat.{mul-le-mul, zero-mul, suc-mul, le_refl}
use borrow.Author.Tests.{le-leb}
use lib.Dec.{eqb}
use lib.ListN.{get_or, length, length-append}
use Rattle.model.specs.Lists.{unless}
use Rattle.model.specs.Limits.{most_case_bytes, most_threads, most_lines, most_records, most_switches, most_items, most_variables, most_schedule_numbers, most_constraints, most_table_numbers}
use Rattle.model.specs.CaseFile.{Line, Case, records, thread_count, switch_count, chains, case_of, lines_of, item_count, sum_of_lines, sum_of_threads}
use Rattle.model.specs.declared.Kind.{Kind}
use Rattle.model.specs.declared.Kind.TheVariants.{Compute, Store, Load, Input, Assert, Assume, Lock, Unlock}
use Rattle.model.specs.Line.{visible, is_input}
use Rattle.model.specs.Assignment.{variables}
use Rattle.model.specs.Table.{Row, row, follow_row, stay_rows, line_order_rows, order_rows, demand_rows, value_rows, all_order_rows, all_value_rows, item_rows, block_rows, run_rows, goal_row, table, numbers_of}
use Rattle.model.specs.Machine.{Outcome, refused14, cut_off, violated, clean}
use Rattle.model.specs.Schedule.{input_lines, all_input_lines, schedule_size, block_lengths, lengths_fit, run_of}
use Rattle.model.specs.Accept.{size_ok, threads_ok, switches_ok, items_ok, absent_ok, links_ok, reached_ok, lengths_ok, broken_record, verdict}
use Rattle.model.specs.Answers.{encoded, failed_in, decoded, answer_of_run, replayed, late_record, answer_of_fill, filled, verdict_numbers, encoded_numbers, decoded_numbers, replayed_numbers, filled_numbers}
use Rattle.model.specs.declared.Refusal.{Refusal}
use Rattle.model.specs.declared.Refusal.TheVariants as refusals
use Rattle.model.specs.Refusals.{Verdict, refusal_number}
use Rattle.laws.specs.Accepted.{Accepted}
use Rattle.laws.specs.RowCounts.{has_eight, order_row_count, is_first, value_row_count}
use Rattle.laws.specs.Sizes.{Sizes, LargestSizes, NeverTooShort}
use Rattle.laws.proofs.Accepted.{accepted_of}
use Rattle.laws.proofs.OnCase.{on_accepted, on_refused}
use Rattle.laws.proofs.Counting.{sum_of_bits}
use Rattle.laws.proofs.RecordSums.{lines_add_up}
use Rattle.laws.proofs.Chains.{thread_count_lem}

-- Six numbers a row.
pub six_a_row : (rows : List Row) → length (numbers_of rows) ≡ 6 * length rows
unfolding numbers_of
six_a_row [] = refl
six_a_row (w ∷ rows) = omega (arith, six_a_row rows)

-- The lines of all threads.
abbrev line_count : List (List Line) → ℕ
line_count threads = sum_of_threads (λ l. 1) threads

lines_counted_lem : (ls : List Line) → sum_of_lines (λ l. 1) ls ≡ length ls
lines_counted_lem [] = refl
lines_counted_lem (l ∷ ls) = omega (arith, lines_counted_lem ls)

lines_are_few : (bytes : List ℕ) → Accepted bytes → line_count (chains bytes 0 (thread_count bytes)) ≤ records bytes
lines_are_few bytes ok =
    omega (arith, lines_add_up (λ k. 1) bytes ok (λ l. 1) (λ t k. refl), sum_of_bits (λ k. 1) 1 (records bytes) (λ k. le_refl 1))

-- The 3s, 8s, 1s and 2s: so many a line.
pub line_order_length : (case : Case) (t : ℕ) (earlier : List Line) (l : Line) (ls : List Line)
    → length (line_order_rows case t earlier l ls) ≡ order_row_count (is_first earlier) l.kind
unfolding line_order_rows stay_rows order_row_count
line_order_length case t [] l ls = refl
line_order_length case t (before ∷ earlier) l ls = go (visible l.kind)
  where
    go : (q : Bool) → suc (length (cond q [] (row 8 l.number before.number 0 0 0 ∷ []) ++ (follow_row case l ls ∷ []))) ≡ cond (not q) 3 2
    go true = refl
    go false = refl

-- Those of lines, of which the first is its thread's first or not.
abbrev pub order_count : Bool → List Line → ℕ
order_count first [] = 0
order_count first (l ∷ ls) = order_row_count first l.kind + order_count false ls

pub order_length : (case : Case) (t : ℕ) (earlier ls : List Line) → length (order_rows case t earlier ls) ≡ order_count (is_first earlier) ls
unfolding order_rows
order_length case t earlier [] = refl
order_length case t earlier (l ∷ ls) =
    omega (
      arith,
      length-append (line_order_rows case t earlier l ls) (order_rows case t (l ∷ earlier) ls),
      line_order_length case t earlier l ls,
      order_length case t (l ∷ earlier) ls,
    )

pub order_count_at_most : (first : Bool) (kind : Kind) → order_row_count first kind ≤ 3
unfolding order_row_count
order_count_at_most first kind = go (has_eight first kind)
  where
    go : (q : Bool) → cond q 3 2 ≤ 3
    go true = omega arith
    go false = omega arith

later_at_most : (ls : List Line) → order_count false ls ≤ 3 * length ls
later_at_most [] = omega arith
later_at_most (l ∷ ls) = omega (arith, order_count_at_most false l.kind, later_at_most ls)

order_at_most : (ls : List Line) → length ls ≤ most_lines → order_count true ls ≤ 2 * length ls + (most_lines - 1)
unfolding order_row_count
order_at_most [] few = omega arith
order_at_most (l ∷ ls) few = omega (arith, later_at_most ls)

orders_at_most : (case : Case) (t : ℕ) (threads : List (List Line)) → ((u : ℕ) → u < length threads → length (get_or threads u []) ≤ most_lines)
    → length (all_order_rows case t threads) ≤ 2 * line_count threads + length threads * (most_lines - 1)
unfolding all_order_rows
orders_at_most case t [] few = omega arith
orders_at_most case t (ls ∷ threads) few =
    omega (
      arith,
      length-append (order_rows case t [] ls) (all_order_rows case (suc t) threads),
      order_length case t [] ls,
      order_at_most ls (few 0 (omega arith)),
      lines_counted_lem ls,
      orders_at_most case (suc t) threads (λ u h. few (suc u) (omega arith)),
    )

-- The 4s and 5s: so many a line, and at most two.
pub line_value_length : (kind : Kind) (case : Case) (earlier : List Line) (l : Line) → suc (length (demand_rows kind case earlier l)) ≡ value_row_count kind
unfolding demand_rows value_row_count
line_value_length Compute case earlier l = refl
line_value_length Store case earlier l = refl
line_value_length Load case earlier l = refl
line_value_length Input case earlier l = refl
line_value_length Assert case earlier l = refl
line_value_length Assume case earlier l = refl
line_value_length Lock case earlier l = refl
line_value_length Unlock case earlier l = refl

pub value_count_at_most : (kind : Kind) → value_row_count kind ≤ 2
unfolding value_row_count
value_count_at_most Compute = omega arith
value_count_at_most Store = omega arith
value_count_at_most Load = omega arith
value_count_at_most Input = omega arith
value_count_at_most Assert = omega arith
value_count_at_most Assume = omega arith
value_count_at_most Lock = omega arith
value_count_at_most Unlock = omega arith

pub value_length : (case : Case) (earlier ls : List Line) → length (value_rows case earlier ls) ≡ sum_of_lines (λ l. value_row_count l.kind) ls
unfolding value_rows
value_length case earlier [] = refl
value_length case earlier (l ∷ ls) =
    omega (
      arith,
      length-append (demand_rows l.kind case earlier l) (value_rows case (l ∷ earlier) ls),
      line_value_length l.kind case earlier l,
      value_length case (l ∷ earlier) ls,
    )

value_at_most : (ls : List Line) → sum_of_lines (λ l. value_row_count l.kind) ls ≤ 2 * length ls
value_at_most [] = omega arith
value_at_most (l ∷ ls) = omega (arith, value_count_at_most l.kind, value_at_most ls)

values_at_most : (case : Case) (threads : List (List Line)) → length (all_value_rows case threads) ≤ 2 * line_count threads
unfolding all_value_rows
values_at_most case [] = omega arith
values_at_most case (ls ∷ threads) =
    omega (
      arith,
      length-append (value_rows case [] ls) (all_value_rows case threads),
      value_length case [] ls,
      value_at_most ls,
      lines_counted_lem ls,
      values_at_most case threads,
    )

-- The 6s: one for each block but the last and each item.
pub items_length : (case : Case) (lines : List Line) (i g many : ℕ) → length (item_rows case lines i g many) ≡ many
unfolding item_rows
items_length case lines i g zero = refl
items_length case lines i g (suc many) = omega (arith, items_length case lines i (suc g) many)

pub blocks_length : (case : Case) (i many : ℕ) → length (block_rows case i many) ≡ many * item_count case
unfolding block_rows
blocks_length case i zero = omega (arith, zero-mul (item_count case))
blocks_length case i (suc many) =
    omega (
      arith,
      length-append (item_rows case (reverse (lines_of case (i % case.T))) i 0 (item_count case)) (block_rows case (suc i) many),
      items_length case (reverse (lines_of case (i % case.T))) i 0 (item_count case),
      blocks_length case (suc i) many,
      suc-mul many (item_count case),
    )

-- Input lines: at most one a line.
inputs_at_most : (ls : List Line) → length (input_lines ls) ≤ length ls
unfolding input_lines
inputs_at_most [] = omega arith
inputs_at_most (l ∷ ls) = go (is_input l.kind) refl (inputs_at_most ls)
  where
    go : (q : Bool) → is_input l.kind ≡ q → length (input_lines ls) ≤ length ls → length (input_lines (l ∷ ls)) ≤ suc (length ls)
    go true e rest = rw e (omega arith)
    go false e rest = rw e (omega arith)

all_inputs_at_most : (threads : List (List Line)) → length (all_input_lines threads) ≤ line_count threads
unfolding all_input_lines
all_inputs_at_most [] = omega arith
all_inputs_at_most (ls ∷ threads) =
    omega (arith, length-append (input_lines ls) (all_input_lines threads), inputs_at_most ls, lines_counted_lem ls, all_inputs_at_most threads)

module _ (bytes : List ℕ) (ok : Accepted bytes) where
  pub case_bytes : length bytes ≤ most_case_bytes
  case_bytes = omega (arith, ok.size, ok.few_records)

  pub item_numbers_lem : item_count (case_of bytes) ≤ most_items
  item_numbers_lem = omega (arith, ok.few_globals, ok.few_mutexes)

  block_values_are_few : switch_count bytes * item_count (case_of bytes) ≤ most_switches * most_items
  block_values_are_few = mul-le-mul ok.few_switches item_numbers_lem

  pub assignment_numbers : variables (case_of bytes) ≤ most_variables
  assignment_numbers = omega (arith, ok.few_records, block_values_are_few)

  pub schedule_numbers : schedule_size (case_of bytes) ≤ most_schedule_numbers
  schedule_numbers =
      omega (arith, ok.few_records, ok.few_switches, all_inputs_at_most (chains bytes 0 (thread_count bytes)), lines_are_few bytes ok)

  pub order_rows_lem : length (all_order_rows (case_of bytes) 0 (case_of bytes).threads) ≤ 2 * most_records + most_threads * (most_lines - 1)
  order_rows_lem =
      omega (
        arith,
        orders_at_most (case_of bytes) 0 (case_of bytes).threads (λ t h. ok.few_lines_lem t (omega (arith, thread_count_lem bytes))),
        thread_count_lem bytes,
        ok.few_threads,
        lines_are_few bytes ok,
        ok.few_records,
      )

  pub value_rows_lem : length (all_value_rows (case_of bytes) (case_of bytes).threads) ≤ 2 * most_records
  value_rows_lem = omega (arith, values_at_most (case_of bytes) (case_of bytes).threads, lines_are_few bytes ok, ok.few_records)

  pub run_rows_lem : length (run_rows (case_of bytes)) < most_constraints
  unfolding run_rows
  run_rows_lem =
      let case = case_of bytes in
      omega (
        arith,
        length-append (all_order_rows case 0 case.threads) (all_value_rows case case.threads ++ block_rows case 0 (switch_count bytes)),
        length-append (all_value_rows case case.threads) (block_rows case 0 (switch_count bytes)),
        order_rows_lem,
        value_rows_lem,
        blocks_length case 0 (switch_count bytes),
        block_values_are_few,
      )

  pub table_rows : length (table (case_of bytes)) ≤ most_constraints
  unfolding table
  table_rows = omega (arith, length-append (run_rows (case_of bytes)) (goal_row ∷ []), run_rows_lem)

  pub table_numbers_lem : length (numbers_of (table (case_of bytes))) ≤ most_table_numbers
  table_numbers_lem = omega (arith, six_a_row (table (case_of bytes)), table_rows)

-- All of them, for every list of bytes that no refusal from 1 to 9 meets.
pub sizes : (bytes : List ℕ) → verdict bytes ≡ Ok tt → Sizes bytes
sizes bytes accepted =
    let ok = accepted_of bytes accepted in
    record {
      case_bytes = case_bytes bytes ok;
      table_numbers_lem = table_numbers_lem bytes ok;
      assignment_numbers = assignment_numbers bytes ok;
      schedule_numbers = schedule_numbers bytes ok;
      item_numbers_lem = item_numbers_lem bytes ok;
    }

pub largest_sizes : LargestSizes
largest_sizes = record {
  case_bytes = refl;
  table_numbers_lem = refl;
  assignment_numbers = refl;
  schedule_numbers = refl;
  item_numbers_lem = refl;
  listing_bytes = refl;
}

-- ---- Slices of these sizes are never refused with 10

-- Checks 1 to 9 have the numbers 1 to 9.
below_10_unless : (test : Bool) (e : Refusal) (next : Verdict) → refusal_number e < 10 → (verdict_numbers next).refusal < 10
    → (verdict_numbers (unless test (Err e) next)).refusal < 10
below_10_unless true e next h rest = rest
below_10_unless false e next h rest = h

verdict_below_10 : (bytes : List ℕ) → (verdict_numbers (verdict bytes)).refusal < 10
unfolding verdict
verdict_below_10 bytes =
    below_10_unless (size_ok bytes) refusals.Size _ (omega arith)
    (below_10_unless (threads_ok bytes) refusals.Threads _ (omega arith)
    (below_10_unless (switches_ok bytes) refusals.Switches _ (omega arith)
    (below_10_unless (items_ok bytes) refusals.Counts _ (omega arith)
    (below_10_unless (absent_ok bytes) refusals.Absent _ (omega arith)
    (below_10_unless (links_ok bytes) refusals.Links _ (omega arith)
    (below_10_unless (reached_ok bytes) refusals.Unreached _ (omega arith)
    (below_10_unless (lengths_ok bytes) refusals.Lines _ (omega arith)
    (below_10_unless (eqb (broken_record bytes) 0) (refusals.Fields (broken_record bytes)) (Ok tt) (omega arith) (omega arith)))))))))

refused_not_10 : (bytes : List ℕ) (e : Refusal) → verdict bytes ≡ Err e → refusal_number e ≢ 10
refused_not_10 bytes e is ten = let few : refusal_number e < 10 = rw is at (verdict_below_10 bytes) in omega arith

-- What comes after the room: 11 and 15 of the decoder, 12 and 13 of the replayer and the filler, and the run.
decoded_not_10 : (sized none : Bool) (failed size : ℕ)
    → (decoded_numbers (unless sized (Err refusals.Assignment) (unless none (Err (refusals.Fails failed)) (Ok size)))).refusal ≢ 10
decoded_not_10 true true failed size = λ ten. omega arith
decoded_not_10 true false failed size = λ ten. omega arith
decoded_not_10 false none failed size = λ ten. omega arith

run_not_10 : (outcome : Outcome) → (replayed_numbers (answer_of_run outcome)).refusal ≢ 10
run_not_10 (refused14 k) = λ ten. omega arith
run_not_10 (cut_off k items) = λ ten. omega arith
run_not_10 (violated k s) = λ ten. omega arith
run_not_10 (clean s) = λ ten. omega arith

replayed_not_10 : (sized fit : Bool) (outcome : Outcome)
    → (replayed_numbers (unless sized (Err refusals.Schedule) (unless fit (Err refusals.Lengths) (answer_of_run outcome)))).refusal ≢ 10
replayed_not_10 true true outcome = run_not_10 outcome
replayed_not_10 true false outcome = λ ten. omega arith
replayed_not_10 false fit outcome = λ ten. omega arith

fill_not_10 : (case : Case) (schedule : List ℕ) (outcome : Outcome) → (filled_numbers (answer_of_fill case schedule outcome)).refusal ≢ 10
fill_not_10 case schedule (refused14 k) = λ ten. omega arith
fill_not_10 case schedule (cut_off k items) = λ ten. omega arith
fill_not_10 case schedule (violated k s) = go (eqb (late_record case schedule) 0)
  where
    go : (none : Bool) → (filled_numbers (unless none (Err (refusals.Late (late_record case schedule))) (Ok (variables case)))).refusal ≢ 10
    go true = λ ten. omega arith
    go false = λ ten. omega arith
fill_not_10 case schedule (clean s) = λ ten. omega arith

filled_not_10 : (case : Case) (schedule : List ℕ) (sized fit : Bool) (outcome : Outcome)
    → (filled_numbers (unless sized (Err refusals.Schedule) (unless fit (Err refusals.Lengths) (answer_of_fill case schedule outcome)))).refusal ≢ 10
filled_not_10 case schedule true true outcome = fill_not_10 case schedule outcome
filled_not_10 case schedule true false outcome = λ ten. omega arith
filled_not_10 case schedule false fit outcome = λ ten. omega arith

pub never_too_short : (bytes : List ℕ) → NeverTooShort bytes
unfolding encoded decoded replayed filled
never_too_short bytes = record {
  table_never_short = λ room h. by_table room h (verdict bytes) refl;
  schedule_never_short = λ xs room h. by_schedule xs room h (verdict bytes) refl;
  items_never_short = λ schedule room h. by_items schedule room h (verdict bytes) refl;
  assignment_never_short = λ schedule room h. by_assignment schedule room h (verdict bytes) refl;
}
  where
    by_table : (room : ℕ) → most_table_numbers ≤ room → (v : Verdict) → verdict bytes ≡ v → (encoded_numbers (encoded bytes room)).refusal ≢ 10
    by_table room h (Ok tt) e = rw (on_accepted _ _ _ e, le-leb (length (numbers_of (table (case_of bytes)))) room (omega (arith, table_numbers_lem bytes (accepted_of bytes e)))) (λ ten. omega arith)
    by_table room h (Err r) e = rw (on_refused _ _ _ r e) (refused_not_10 bytes r e)

    by_schedule : (xs : List ℕ) (room : ℕ) → most_schedule_numbers ≤ room → (v : Verdict) → verdict bytes ≡ v → (decoded_numbers (decoded bytes xs room)).refusal ≢ 10
    by_schedule xs room h (Ok tt) e =
        rw (on_accepted _ _ _ e, le-leb (schedule_size (case_of bytes)) room (omega (arith, schedule_numbers bytes (accepted_of bytes e))))
        (decoded_not_10 (eqb (length xs) (variables (case_of bytes))) (eqb (failed_in bytes xs) 0) (failed_in bytes xs) (schedule_size (case_of bytes)))
    by_schedule xs room h (Err r) e = rw (on_refused _ _ _ r e) (refused_not_10 bytes r e)

    by_items : (schedule : List ℕ) (room : ℕ) → most_items ≤ room → (v : Verdict) → verdict bytes ≡ v → (replayed_numbers (replayed bytes schedule room)).refusal ≢ 10
    by_items schedule room h (Ok tt) e =
        rw (on_accepted _ _ _ e, le-leb (item_count (case_of bytes)) room (omega (arith, item_numbers_lem bytes (accepted_of bytes e))))
        (replayed_not_10 (eqb (length schedule) (schedule_size (case_of bytes))) (lengths_fit (case_of bytes) (block_lengths (case_of bytes) schedule))
        (run_of (case_of bytes) schedule))
    by_items schedule room h (Err r) e = rw (on_refused _ _ _ r e) (refused_not_10 bytes r e)

    by_assignment : (schedule : List ℕ) (room : ℕ) → most_variables ≤ room → (v : Verdict) → verdict bytes ≡ v → (filled_numbers (filled bytes schedule room)).refusal ≢ 10
    by_assignment schedule room h (Ok tt) e =
        rw (on_accepted _ _ _ e, le-leb (variables (case_of bytes)) room (omega (arith, assignment_numbers bytes (accepted_of bytes e))))
        (filled_not_10 (case_of bytes) schedule (eqb (length schedule) (schedule_size (case_of bytes))) (lengths_fit (case_of bytes) (block_lengths (case_of bytes) schedule))
        (run_of (case_of bytes) schedule))
    by_assignment schedule room h (Err r) e = rw (on_refused _ _ _ r e) (refused_not_10 bytes r e)
