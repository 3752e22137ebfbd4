-- The script of an accepted case can be spelled: its variables are those that it declares, and its constants have 16 bits.
-- Assumes nothing. Met again in Filed.
use Rattle.std.specs.Prelude.{Ok}
use mathlib.Core.Path.{◌≡◌}
use Prim.Native.Nat.{ℕ, zero, suc, ◌+◌, ◌%◌, ◌≤◌, ◌<◌}
use mathlib.Core.Bool.{Bool, true, false, cond}
use mathlib.Core.List.{List, [], ◌∷◌, ◌++◌, reverse, reverse_aux}
use native.Mathlib.Omega.{arith}
use lib.Dec.{eqb}
use lib.ListN.{get_or, length}
use Rattle.model.specs.Word.{word_size, AllBelow}
use Rattle.model.specs.CaseFile.{Line, Case, case_of, lines_of, item_count, line_at}
use Rattle.model.specs.declared.Kind.{Kind}
use Rattle.model.specs.declared.Kind.TheVariants.{Compute, Store, Load, Input, Assert, Assume, Lock, Unlock}
use Rattle.model.specs.Line.{guard_name, operand_a, operand_b, target_name, visible, is_input}
use Rattle.model.specs.Accept.{verdict}
use Rattle.model.specs.Assignment.{variables}
use Rattle.model.specs.Holds.{from_record}
use Rattle.model.specs.Table.{Row, row, follow_row, stay_rows, line_order_rows, order_rows, demand_rows, value_rows, all_order_rows, all_value_rows, item_rows, block_rows, run_rows, goal_row, table, without_eights}
use Rattle.script.specs.Assertions.{most_sources, source, sources_from, sources_of, assertion_of, assertions_of, script_of}
use Rattle.laws.specs.Accepted.{Accepted}
use Rattle.laws.specs.Order.{AllLines, AllThreads}
use Rattle.laws.specs.RecordNumber.{RecordNumber}
use Rattle.laws.proofs.Accepted.{accepted_of}
use Rattle.laws.proofs.AllLines.{all_threads_lem, each_thread}
use Rattle.laws.proofs.Below.{below_at}
use Rattle.laws.proofs.Chains.{thread_count_lem}
use Rattle.laws.proofs.LineFound.{line_found}
use Rattle.laws.proofs.Sizes.{assignment_numbers}
use Rattle.correspondence.specs.Meaning.{SmallLine}
use Rattle.correspondence.proofs.WellFormed.{all_lines_by, well_formed}
use Rattle.reading.specs.Spellable.{AllSpellable, ScriptSpellable}
use Rattle.script_truth.specs.Filed.{script_without_eights}
use Rattle.script_truth.proofs.Spelled.{taken, AllRecords, Spells, copy_low, block_spelled, value_assertion_spelled, demand_assertion_spelled, walk_spelled, goal_spelled}

-- ---- The sources are records.
sources_from_known : (case : Case) (many k room : ℕ) → 0 < k → k + many ≤ suc case.R → AllRecords case.R (sources_from case many k room)
unfolding sources_from
sources_from_known case zero k room low high = tt
sources_from_known case (suc many) k room low high =
    go (is_input (line_at case k).kind) room (λ r. sources_from_known case many (suc k) r (omega arith) (omega arith))
  where
    go : (p : Bool) (r : ℕ) → ((r' : ℕ) → AllRecords case.R (sources_from case many (suc k) r'))
        → AllRecords case.R (source p k (sources_from case many (suc k)) r)
    go true zero rest = tt
    go true (suc r) rest = (record { some = low; low = omega arith }, rest r)
    go false r rest = rest r

sources_known : (case : Case) → AllRecords case.R (sources_of case)
unfolding sources_of
sources_known case = sources_from_known case case.R 1 most_sources (omega arith) (omega arith)

-- ---- Lines given latest first.
all_reversed : (P : Line → Type 0) (ls earlier : List Line) → AllLines P ls → AllLines P earlier → AllLines P (reverse_aux ls earlier)
all_reversed P [] earlier all before = before
all_reversed P (l ∷ ls) earlier all before = all_reversed P ls (l ∷ earlier) all.1 (all.0, before)

all_from_record : (P : Line → Type 0) (k : ℕ) (ls : List Line) → AllLines P ls → AllLines P (from_record k ls)
unfolding from_record
all_from_record P k [] all = tt
all_from_record P k (l ∷ ls) all = go (all_from_record P k ls all.1)
  where
    go : AllLines P (from_record k ls) → AllLines P (from_record k (l ∷ ls))
    go rest = taken (AllLines P) (eqb l.number k) (l ∷ ls) (from_record k ls) (λ e. all) (λ e. rest)

-- ---- The rows.
module _ (case : Case) (few : suc case.n < word_size) (initials : (g : ℕ) → get_or case.initial g 0 < word_size)
    (sources : List ℕ) (known : AllRecords case.R sources) where
  abbrev Rows : List Row → Type 0
  Rows ws = AllSpellable (variables case) (assertions_of case sources ws)

  rows_append : (ws us : List Row) → Rows ws → Rows us → Rows (ws ++ us)
  unfolding assertions_of
  rows_append [] us h g = g
  rows_append (w ∷ ws) us h g = (h.0, rows_append ws us h.1 g)

  stay_spelled : (earlier : List Line) (l : Line) → AllLines (Spells case) earlier → Spells case l → Rows (stay_rows earlier l)
  unfolding stay_rows assertions_of assertion_of
  stay_spelled [] l before line = tt
  stay_spelled (l' ∷ earlier) l before line = go (visible l.kind)
    where
      go : (q : Bool) → Rows (cond q [] (row 8 l.number l'.number 0 0 0 ∷ []))
      go true = tt
      go false =
          let own = block_spelled case few initials l.number line.number in
          (((own, few), (own, block_spelled case few initials l'.number before.0.number)), tt)

  follow_spelled : (l : Line) (ls : List Line) → Spells case l → AllLines (Spells case) ls → Rows (follow_row case l ls ∷ [])
  unfolding follow_row assertions_of assertion_of
  follow_spelled l [] line all = ((block_spelled case few initials l.number line.number, few), tt)
  follow_spelled l (next ∷ ls) line all =
      ((block_spelled case few initials l.number line.number, block_spelled case few initials next.number all.0.number), tt)

  order_spelled : (t : ℕ) (earlier ls : List Line) → t < word_size → case.T < word_size → AllLines (Spells case) earlier → AllLines (Spells case) ls
      → Rows (order_rows case t earlier ls)
  unfolding order_rows line_order_rows assertions_of assertion_of
  order_spelled t earlier [] small low before all = tt
  order_spelled t earlier (l ∷ ls) small low before all =
      let own = block_spelled case few initials l.number all.0.number in (
        ((own, few), ((own, low), small)),
        rows_append (stay_rows earlier l ++ (follow_row case l ls ∷ [])) _
            (rows_append (stay_rows earlier l) _ (stay_spelled earlier l before all.0) (follow_spelled l ls all.0 all.1))
            (order_spelled t (l ∷ earlier) ls small low (all.0, before) all.1),
      )

  orders_spelled : (t : ℕ) (threads : List (List Line)) → t + length threads < word_size → case.T < word_size → AllThreads (Spells case) threads
      → Rows (all_order_rows case t threads)
  unfolding all_order_rows assertions_of
  orders_spelled t [] small low all = tt
  orders_spelled t (ls ∷ threads) small low all =
      rows_append (order_rows case t [] ls) _ (order_spelled t [] ls (omega arith) low tt all.0)
      (orders_spelled (suc t) threads (omega arith) low all.1)

  demand_row_spelled : (kind : Kind) (earlier : List Line) (l : Line) → Spells case l → AllLines (Spells case) earlier
      → Rows (demand_rows kind case earlier l)
  unfolding demand_rows assertions_of assertion_of
  demand_row_spelled Compute earlier l line before = tt
  demand_row_spelled Store earlier l line before = tt
  demand_row_spelled Load earlier l line before = tt
  demand_row_spelled Input earlier l line before = tt
  demand_row_spelled Assert earlier l line before = tt
  demand_row_spelled Assume earlier l line before =
      (demand_assertion_spelled case few initials sources known l line 0 0 (omega arith) (omega arith), tt)
  demand_row_spelled Lock earlier l line before = (
    demand_assertion_spelled case few initials sources known l line _ _
        (copy_low case (guard_name l) earlier before) (copy_low case (target_name case.G l) earlier before),
    tt,
  )
  demand_row_spelled Unlock earlier l line before = tt

  values_spelled : (earlier ls : List Line) → AllLines (Spells case) earlier → AllLines (Spells case) ls → Rows (value_rows case earlier ls)
  unfolding value_rows assertions_of assertion_of
  values_spelled earlier [] before all = tt
  values_spelled earlier (l ∷ ls) before all = (
    value_assertion_spelled case few initials sources known l all.0 _ _ _ _
        (copy_low case (guard_name l) earlier before) (copy_low case (operand_a l) earlier before)
        (copy_low case (operand_b l) earlier before) (copy_low case (target_name case.G l) earlier before),
    rows_append (demand_rows l.kind case earlier l) _ (demand_row_spelled l.kind earlier l all.0 before)
        (values_spelled (l ∷ earlier) ls (all.0, before) all.1),
  )

  all_values_spelled : (threads : List (List Line)) → AllThreads (Spells case) threads → Rows (all_value_rows case threads)
  unfolding all_value_rows assertions_of
  all_values_spelled [] all = tt
  all_values_spelled (ls ∷ threads) all =
      rows_append (value_rows case [] ls) _ (values_spelled [] ls tt all.0) (all_values_spelled threads all.1)

  module _ (all : AllThreads (Spells case) case.threads) where
    lines_back_lem : (i : ℕ) → AllLines (Spells case) (reverse (lines_of case (i % case.T)))
    lines_back_lem i = all_reversed (Spells case) (lines_of case (i % case.T)) [] (each_thread (Spells case) case.threads all (i % case.T)) tt

    items_spelled : (lines : List Line) (i g many : ℕ) → i < case.n → g + many ≤ item_count case → Rows (item_rows case lines i g many)
    unfolding item_rows assertions_of assertion_of
    items_spelled lines i g zero low high = tt
    items_spelled lines i g (suc many) low high = (
      walk_spelled case few initials sources known i g _ low (omega arith) (all_from_record (Spells case) _ _ (lines_back_lem i)),
      items_spelled lines i (suc g) many low (omega arith),
    )

    blocks_spelled : (i many : ℕ) → i + many ≤ case.n → Rows (block_rows case i many)
    unfolding block_rows assertions_of
    blocks_spelled i zero high = tt
    blocks_spelled i (suc many) high =
        rows_append (item_rows case (reverse (lines_of case (i % case.T))) i 0 (item_count case)) _
        (items_spelled _ i 0 (item_count case) (omega arith) (omega arith))
        (blocks_spelled (suc i) many (omega arith))

    table_spelled : length case.threads < word_size → case.T < word_size → Rows (table case)
    unfolding table run_rows assertions_of assertion_of
    table_spelled small low =
        rows_append (all_order_rows case 0 case.threads ++ (all_value_rows case case.threads ++ block_rows case 0 case.n)) (goal_row ∷ [])
        (rows_append (all_order_rows case 0 case.threads) _ (orders_spelled 0 case.threads (omega arith) low all)
        (rows_append (all_value_rows case case.threads) _ (all_values_spelled case.threads all) (blocks_spelled 0 case.n (omega arith))))
        (goal_spelled case few initials sources known case.threads all, tt)

rows_without : (case : Case) (sources : List ℕ) (ws : List Row) → AllSpellable (variables case) (assertions_of case sources ws)
    → AllSpellable (variables case) (assertions_of case sources (without_eights ws))
unfolding assertions_of without_eights
rows_without case sources [] h = tt
rows_without case sources (w ∷ ws) h =
    let rest = rows_without case sources ws h.1 in
    taken (λ us. AllSpellable (variables case) (assertions_of case sources us)) (eqb w.kind 8) (without_eights ws) (w ∷ without_eights ws) (λ e. rest) (λ e. (h.0, rest))

-- ---- An accepted case.
all_spell : (case : Case) (ls : List Line) → AllLines (λ l. line_at case l.number ≡ l) ls → AllLines (λ l. RecordNumber case.R l.number) ls
    → AllLines SmallLine ls → AllLines (Spells case) ls
all_spell case [] found known own = tt
all_spell case (l ∷ ls) found known own =
    (record { found = found.0; number = known.0; own = own.0 }, all_spell case ls found.1 known.1 own.1)

module _ (bytes : List ℕ) (accepted : verdict bytes ≡ Ok tt) where
  ok : Accepted bytes
  ok = accepted_of bytes accepted

  pub script_spelled : AllBelow 256 bytes → ScriptSpellable (script_of (case_of bytes))
  unfolding script_of
  script_spelled small =
      let case = case_of bytes in
      let wf = well_formed bytes small ok in
      record {
        declared = omega (arith, assignment_numbers bytes ok);
        assertions =
            table_spelled case (omega (arith, ok.few_switches)) (below_at word_size case.initial (omega arith) wf.small_initial)
            (sources_of case) (sources_known case)
            (all_threads_lem (Spells case) case.threads (λ t few. all_spell case (lines_of case t) (line_found case wf.once t)
            (all_lines_by bytes ok (λ l. RecordNumber case.R l.number) t (λ k thread low high. record { some = low; low = high })) (wf.small_lines_lem t)))
            (omega (arith, thread_count_lem bytes, ok.few_threads)) (omega (arith, ok.few_threads));
      }

  pub without_spelled : AllBelow 256 bytes → ScriptSpellable (script_without_eights (case_of bytes))
  unfolding script_of
  without_spelled small =
      let whole = script_spelled small in
      record { declared = whole.declared; assertions = rows_without (case_of bytes) (sources_of (case_of bytes)) (table (case_of bytes)) whole.assertions }
