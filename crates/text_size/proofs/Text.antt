-- No text of an accepted case is longer than two million bytes. The more threads there are, the more lines there can be, and the fewer
-- blocks a thread has; with four threads the bound is nearest.
-- Assumes nothing.
use Rattle.std.specs.Prelude.{Ok}
use mathlib.Core.Path.{◌≡◌, subst}
use Prim.Native.Nat.{ℕ, zero, suc, ◌+◌, ◌-◌, ◌*◌, ◌≤◌}
use mathlib.Core.List.{List, [], ◌∷◌, ◌++◌}
use native.Mathlib.Omega.{arith}
use lib.ListN.{length, length-append}
use Rattle.model.specs.Limits.{most_lines}
use Rattle.model.specs.CaseFile.{Case, thread_count, switch_count, case_of, lines_of, line_at}
use Rattle.model.specs.Assignment.{variables}
use Rattle.model.specs.Accept.{verdict}
use Rattle.model.specs.Listing.{decimal}
use Rattle.model.specs.Table.{all_order_rows, all_value_rows, block_rows, run_rows, goal_row, table}
use Rattle.laws.specs.Accepted.{Accepted}
use Rattle.laws.specs.Order.{AllThreads}
use Rattle.laws.proofs.Accepted.{accepted_of}
use Rattle.laws.proofs.AllLines.{all_threads_lem}
use Rattle.laws.proofs.Chains.{thread_by}
use Rattle.laws.proofs.LineFound.{line_found}
use Rattle.laws.proofs.Lines.{numbers_once}
use Rattle.laws.proofs.Sizes.{item_numbers_lem, assignment_numbers}
use Rattle.laws.proofs.Views.{LtView, below, above, lt_view}
use Rattle.smt.specs.Spelling.{ascii, logic_line, declaration, declarations, assertion_lines, question_line, script_text}
use Rattle.script.specs.Assertions.{sources_of, own_blocks, some_thread_breaks, assertion_of, assertions_of, script_of}
use Rattle.script.specs.Text.{smt_text, most_text_bytes}
use Rattle.text_size.proofs.Formulas.{size, five_digits}
use Rattle.text_size.proofs.Blocks.{sources_few, blocks_few, line_count, lines_are_few, lines_a_thread}
use Rattle.text_size.proofs.Rows.{rows_size, rows_append, lines_text, all_order_size, all_values_size, blocks_size}

declaration_length : (k : ℕ) → length (declaration k) ≤ 38
unfolding declaration
declaration_length k = omega (arith, length-append (decimal k) (ascii " () (_ BitVec 16))\n"), five_digits k)

declarations_length : (k many : ℕ) → length (declarations k many) ≤ 38 * many
unfolding declarations
declarations_length k zero = omega arith
declarations_length k (suc many) = omega (arith, length-append (declaration k) (declarations (suc k) many), declaration_length k, declarations_length (suc k) many)

module _ (bytes : List ℕ) (ok : Accepted bytes) where
  abbrev case : Case
  case = case_of bytes

  short_threads : (t : ℕ) → length (lines_of case t) ≤ most_lines
  short_threads t = go (lt_view t (thread_count bytes))
    where
      go : LtView t (thread_count bytes) → length (lines_of case t) ≤ most_lines
      go (below h q) = ok.few_lines_lem t h
      go (above h q) = thread_by bytes t (λ ls. length ls ≤ most_lines) (omega arith) (λ few. absurd (omega arith))

  found : AllThreads (λ l. line_at case l.number ≡ l) case.threads
  found = all_threads_lem (λ l. line_at case l.number ≡ l) case.threads (λ t h. line_found case (numbers_once bytes ok) t)

  goal_row_size : rows_size case (sources_of case) (goal_row ∷ []) ≡ 10 + size (some_thread_breaks case (sources_of case) case.threads)
  unfolding rows_size assertion_of
  goal_row_size = omega arith

  -- The assertions, where no read has more than so many bytes.
  module _ (reads : ℕ) (own : (t : ℕ) → 371 + 366 * length (own_blocks case t) ≤ reads) (small : reads ≤ 3800) where
    table_size : rows_size case (sources_of case) (table case) ≤ 147 * line_count case.threads + (4059 + reads) * line_count case.threads + 414555
    unfolding table run_rows
    table_size =
        let orders = all_order_rows case 0 case.threads in
        let values = all_value_rows case case.threads in
        let blocks = block_rows case 0 (switch_count bytes) in
        let sources = sources_of case in
        omega (
          arith,
          rows_append case sources (orders ++ (values ++ blocks)) (goal_row ∷ []),
          rows_append case sources orders (values ++ blocks),
          rows_append case sources values blocks,
          all_order_size case sources 0 case.threads,
          all_values_size case sources (sources_few case) reads own small case.threads found,
          blocks_size case sources (sources_few case) short_threads (item_numbers_lem bytes ok) 0 (switch_count bytes),
          ok.few_switches,
          goal_row_size,
        )

    text_size : length (smt_text bytes) ≤ 147 * line_count case.threads + (4059 + reads) * line_count case.threads + 440881
    unfolding smt_text script_text script_of
    text_size =
        let declared = declarations 0 (variables case) in
        let asserted = assertion_lines (assertions_of case (sources_of case) (table case)) in
        omega (
          arith,
          length-append logic_line (declared ++ (asserted ++ question_line)),
          length-append declared (asserted ++ question_line),
          length-append asserted question_line,
          declarations_length 0 (variables case),
          assignment_numbers bytes ok,
          lines_text case (sources_of case) (table case),
          table_size,
        )

  -- By the number of threads.
  own_blocks_lem : (T : ℕ) → thread_count bytes ≡ T → (t : ℕ) → T * length (own_blocks case t) ≤ switch_count bytes + T - t
  own_blocks_lem T e t =
      subst (λ (x : ℕ). x * length (own_blocks case t) ≤ switch_count bytes + x - t) e
      (blocks_few (thread_count bytes) (switch_count bytes) (suc (switch_count bytes)) t)

  by_threads : length (smt_text bytes) ≤ most_text_bytes
  by_threads = go (lt_view (thread_count bytes) 3) (lt_view (thread_count bytes) 4)
    where
      go : LtView (thread_count bytes) 3 → LtView (thread_count bytes) 4 → length (smt_text bytes) ≤ most_text_bytes
      go (below h _) v = let e : thread_count bytes ≡ 2 = omega (arith, ok.some_threads) in
          omega (arith, text_size 3299 (λ t. omega (arith, own_blocks_lem 2 e t, ok.few_switches)) (omega arith), lines_a_thread bytes ok, e)
      go (above g _) (below h _) = let e : thread_count bytes ≡ 3 = omega arith in
          omega (arith, text_size 2567 (λ t. omega (arith, own_blocks_lem 3 e t, ok.few_switches)) (omega arith), lines_a_thread bytes ok, e)
      go (above g _) (above h _) = let e : thread_count bytes ≡ 4 = omega (arith, ok.few_threads) in
          omega (arith, text_size 1835 (λ t. omega (arith, own_blocks_lem 4 e t, ok.few_switches)) (omega arith), lines_are_few bytes ok, ok.few_records)

pub text_at_most : (bytes : List ℕ) → verdict bytes ≡ Ok tt → length (smt_text bytes) ≤ most_text_bytes
text_at_most bytes accepted = by_threads bytes (accepted_of bytes accepted)
