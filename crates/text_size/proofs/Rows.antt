-- How long the lines of the assertions are at the most: of the order rows, of the 4s and 5s with the goal, and of the 6s.
-- Assumes nothing. Met again in Text.
use mathlib.Core.Path.{◌≡◌, refl, sym, ap, subst}
use Prim.Native.Nat.{ℕ, zero, suc, ◌+◌, ◌*◌, ◌%◌, ◌≤◌}
use mathlib.Core.Bool.{Bool, true, false, cond}
use mathlib.Core.List.{List, [], ◌∷◌, ◌++◌, reverse}
use native.Mathlib.Omega.{arith}
use native.Mathlib.Nat.{mul-zero, mul-suc, mul-add}
use lib.Dec.{eqb}
use lib.ListN.{length, length-append, length-reverse}
use Rattle.model.specs.Limits.{most_lines, most_items}
use Rattle.model.specs.CaseFile.{Line, Case, lines_of, item_count, line_at, sum_of_lines}
use Rattle.model.specs.declared.Kind.{Kind}
use Rattle.model.specs.declared.Kind.TheVariants.{Compute, Store, Load, Input, Assert, Assume, Lock, Unlock}
use Rattle.model.specs.Line.{item_name, target_name, guard_name, operand_a, operand_b}
use Rattle.model.specs.Copies.{latest, copy_of}
use Rattle.model.specs.Holds.{from_record}
use Rattle.model.specs.Table.{Row, row, follow_row, stay_rows, line_order_rows, order_rows, value_row, demand_rows, value_rows, all_order_rows, all_value_rows, item_rows, block_rows}
use Rattle.laws.specs.Order.{AllLines, AllThreads}
use Rattle.laws.proofs.Counting.{sum_from}
use Rattle.laws.proofs.StayRows.{stay_rows_by}
use Rattle.smt.specs.Term.{constant, Formula, select}
use Rattle.smt.specs.Spelling.{ascii, formula_text, assertion, assertion_lines}
use Rattle.script.specs.Assertions.{most_sources, equal, block_of, value_of, block_value, value_before, same, own_blocks, demand_assertion, walk_back, some_breaks, some_thread_breaks, assertion_of, assertions_of}
use Rattle.text_size.proofs.Formulas.{size, formula_text_lem}
use Rattle.text_size.proofs.ReadTexts.{before_atomic, same_size}
use Rattle.text_size.proofs.Lines.{or_not_run_size, demand_most, part_most, assume_size, lock_size, part_size, line_most}
use Rattle.text_size.proofs.Blocks.{line_count, lines_counted_lem, hits, hits_from_record, hits_at_most}

module _ (case : Case) (sources : List ℕ) where
  -- The lines of the assertions of some rows: each has ten bytes besides its formula.
  unfoldable pub rows_size : List Row → ℕ
  rows_size [] = 0
  rows_size (w ∷ ws) = 10 + size (assertion_of case sources w) + rows_size ws

  pub rows_append : (ws us : List Row) → rows_size (ws ++ us) ≡ rows_size ws + rows_size us
  unfolding rows_size
  rows_append [] us = omega arith
  rows_append (w ∷ ws) us = omega (arith, rows_append ws us)

  pub lines_text : (ws : List Row) → length (assertion_lines (assertions_of case sources ws)) ≤ rows_size ws
  unfolding rows_size assertions_of assertion_lines assertion
  lines_text [] = omega arith
  lines_text (w ∷ ws) =
      let f = assertion_of case sources w in
      omega (
        arith,
        length-append (ascii "(assert " ++ (formula_text f ++ ascii ")\n")) (assertion_lines (assertions_of case sources ws)),
        length-append (formula_text f) (ascii ")\n"),
        formula_text_lem f,
        lines_text ws,
      )

  -- ---- The 3s, 8s, 1s and 2s.
  follow_size : (l : Line) (ls : List Line) → size (assertion_of case sources (follow_row case l ls)) ≤ 21
  unfolding follow_row assertion_of size
  follow_size l [] = omega arith
  follow_size l (next ∷ ls) = omega arith

  thread_size : (t : ℕ) (l : Line) → size (assertion_of case sources (row 3 l.number case.T t 0 0)) ≤ 56
  unfolding assertion_of size
  thread_size t l = omega arith

  stay_size : (earlier : List Line) (l : Line) → rows_size (stay_rows earlier l) ≤ 50
  unfolding rows_size assertion_of size
  stay_size earlier l = stay_rows_by (λ ws. rows_size ws ≤ 50) earlier l (omega arith) (λ before. omega arith)

  line_order_size : (t : ℕ) (earlier : List Line) (l : Line) (ls : List Line) → rows_size (line_order_rows case t earlier l ls) ≤ 147
  unfolding line_order_rows rows_size
  line_order_size t earlier l ls =
      omega (arith, rows_append (stay_rows earlier l) (follow_row case l ls ∷ []), thread_size t l, stay_size earlier l, follow_size l ls)

  order_size : (t : ℕ) (earlier ls : List Line) → rows_size (order_rows case t earlier ls) ≤ 147 * length ls
  unfolding order_rows rows_size
  order_size t earlier [] = omega arith
  order_size t earlier (l ∷ ls) =
      omega (arith, rows_append (line_order_rows case t earlier l ls) (order_rows case t (l ∷ earlier) ls), line_order_size t earlier l ls, order_size t (l ∷ earlier) ls)

  pub all_order_size : (t : ℕ) (threads : List (List Line)) → rows_size (all_order_rows case t threads) ≤ 147 * line_count threads
  unfolding all_order_rows rows_size
  all_order_size t [] = omega arith
  all_order_size t (ls ∷ threads) =
      omega (arith, rows_append (order_rows case t [] ls) (all_order_rows case (suc t) threads), order_size t [] ls, lines_counted_lem ls, all_order_size (suc t) threads)

  module _ (few : length sources ≤ most_sources) where
    -- ---- The 4s and 5s and the goal, of lines that their numbers find.
    module _ (reads : ℕ) (own : (t : ℕ) → 371 + 366 * length (own_blocks case t) ≤ reads) (small : reads ≤ 3800) where
      of_kind : (κ : Kind) (l : Line) → l.kind ≡ κ → (guard target : ℕ) {n : ℕ} → size (demand_assertion κ case sources l guard target) ≤ n
          → size (demand_assertion l.kind case sources l guard target) ≤ n
      of_kind κ l e guard target {n} h = subst (λ (kind : Kind). size (demand_assertion kind case sources l guard target) ≤ n) (sym e) h

      demand_size : (κ : Kind) (earlier : List Line) (l : Line) → (line_at case l.number).kind ≡ κ → rows_size (demand_rows κ case earlier l) ≤ demand_most case sources few reads κ
      unfolding demand_rows rows_size assertion_of
      demand_size Compute earlier l e = omega arith
      demand_size Store earlier l e = omega arith
      demand_size Load earlier l e = omega arith
      demand_size Input earlier l e = omega arith
      demand_size Assert earlier l e = omega arith
      demand_size Assume earlier l e =
          let f = demand_assertion (line_at case l.number).kind case sources (line_at case l.number) 0 0 in
          omega (
            arith,
            or_not_run_size case l.number f,
            of_kind Assume (line_at case l.number) e 0 0 (assume_size case sources few reads own (line_at case l.number) 0 0),
          )
      demand_size Lock earlier l e =
          let guard = copy_of case.G (guard_name l) earlier in
          let target = copy_of case.G (target_name case.G l) earlier in
          let f = demand_assertion (line_at case l.number).kind case sources (line_at case l.number) guard target in
          omega (
            arith,
            or_not_run_size case l.number f,
            of_kind Lock (line_at case l.number) e guard target (lock_size case sources few reads own (line_at case l.number) guard target),
          )
      demand_size Unlock earlier l e = omega arith

      value_size : (earlier : List Line) (l : Line) → line_at case l.number ≡ l
          → 10 + size (assertion_of case sources (value_row case earlier l)) + rows_size (demand_rows l.kind case earlier l) + part_most case sources few reads l.kind ≤ 4059 + reads
      unfolding assertion_of
      value_size earlier l found =
          omega (
            arith,
            line_most case sources few reads own small l found (copy_of case.G (guard_name l) earlier) (copy_of case.G (operand_a l) earlier)
                (copy_of case.G (operand_b l) earlier) (copy_of case.G (target_name case.G l) earlier),
            demand_size l.kind earlier l (ap (λ (m : Line). m.kind) found),
          )

      values_size : (earlier ls : List Line) (f : Formula) → AllLines (λ l. line_at case l.number ≡ l) ls
          → rows_size (value_rows case earlier ls) + size (some_breaks case sources earlier ls f) ≤ (4059 + reads) * length ls + size f
      unfolding value_rows rows_size some_breaks
      values_size earlier [] f found = omega (arith, mul-zero (4059 + reads))
      values_size earlier (l ∷ ls) f found =
          omega (
            arith,
            rows_append (demand_rows l.kind case earlier l) (value_rows case (l ∷ earlier) ls),
            value_size earlier l found.0,
            part_size case sources few reads own l.kind earlier l (some_breaks case sources (l ∷ earlier) ls f),
            values_size (l ∷ earlier) ls f found.1,
            mul-suc (4059 + reads) (length ls),
          )

      pub all_values_size : (threads : List (List Line)) → AllThreads (λ l. line_at case l.number ≡ l) threads
          → rows_size (all_value_rows case threads) + size (some_thread_breaks case sources threads) ≤ (4059 + reads) * line_count threads + 5
      unfolding all_value_rows rows_size some_thread_breaks size
      all_values_size [] found = omega (arith, mul-zero (4059 + reads))
      all_values_size (ls ∷ threads) found =
          omega (
            arith,
            rows_append (value_rows case [] ls) (all_value_rows case threads),
            values_size [] ls (some_thread_breaks case sources threads) found.0,
            ap (λ (many : ℕ). (4059 + reads) * many) (lines_counted_lem ls),
            all_values_size threads found.1,
            mul-add (4059 + reads) (sum_of_lines (λ l. 1) ls) (line_count threads),
          )

    -- ---- The 6s.
    walk_size : (i g : ℕ) (ls : List Line) → size (walk_back case sources i g ls) ≤ 341 + 366 * hits case g ls
    unfolding walk_back size
    walk_size i g [] = base
      where
        base : size (same sources (block_value case i g) (value_before case i g)) ≤ 341
        base = same_size case sources few (block_value case i g) (value_before case i g) (omega arith) (before_atomic case i g)
    walk_size i g (l ∷ ls) = go (eqb (target_name case.G l) (item_name g)) refl (walk_size i g ls)
      where
        here : Formula
        here = walk_back case sources i g ls

        go : (q : Bool) → eqb (target_name case.G l) (item_name g) ≡ q → size here ≤ 341 + 366 * hits case g ls
            → size (cond q (select (equal (block_of l.number) (constant i)) (same sources (block_value case i g) (value_of l.number)) here) here) ≤ 341 + 366 * hits case g (l ∷ ls)
        go true e later = rw e (omega (arith, same_size case sources few (block_value case i g) (value_of l.number) (omega arith) (omega arith)))
        go false e later = rw e (omega arith)

    item_size : (i g k : ℕ) → size (assertion_of case sources (row 6 g i k 0 0)) ≤ 341 + 366 * hits case g (reverse (lines_of case (i % case.T)))
    unfolding assertion_of
    item_size i g k =
        let lines = reverse (lines_of case (i % case.T)) in
        omega (arith, walk_size i g (from_record k lines), hits_from_record case g k lines)

    items_size : (i g many : ℕ)
        → rows_size (item_rows case (reverse (lines_of case (i % case.T))) i g many) ≤ 351 * many + 366 * sum_from (λ j. hits case j (reverse (lines_of case (i % case.T)))) g many
    unfolding item_rows rows_size
    items_size i g zero = omega arith
    items_size i g (suc many) =
        omega (arith, item_size i g (latest case.G (item_name g) (reverse (lines_of case (i % case.T)))), items_size i (suc g) many)

    module _ (short : (t : ℕ) → length (lines_of case t) ≤ most_lines) (items : item_count case ≤ most_items) where
      block_size : (i : ℕ) → rows_size (item_rows case (reverse (lines_of case (i % case.T))) i 0 (item_count case)) ≤ 27636
      block_size i =
          let lines = reverse (lines_of case (i % case.T)) in
          omega (
            arith,
            items_size i 0 (item_count case),
            hits_at_most case lines 0 (item_count case),
            length-reverse (lines_of case (i % case.T)),
            short (i % case.T),
          )

      pub blocks_size : (i many : ℕ) → rows_size (block_rows case i many) ≤ 27636 * many
      unfolding block_rows rows_size
      blocks_size i zero = omega arith
      blocks_size i (suc many) =
          omega (
            arith,
            rows_append (item_rows case (reverse (lines_of case (i % case.T))) i 0 (item_count case)) (block_rows case (suc i) many),
            block_size i,
            blocks_size (suc i) many,
          )
