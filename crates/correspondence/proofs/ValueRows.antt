-- Constraints 4 and 5 of the table hold just when each line has its value and, if it was run, meets its demand.
-- Assumes nothing. Met again in Rows.
use mathlib.Core.Path.{◌≡◌, refl, sym, ap, ◌∙◌, subst}
use Prim.Native.Nat.{ℕ, zero, suc, ◌+◌, ◌≤◌, ◌<◌}
use mathlib.Core.Bool.{Bool, true, false, not, ◌||◌}
use mathlib.Core.List.{List, [], ◌∷◌}
use native.Mathlib.Omega.{arith}
use lib.ListN.{get_or, length}
use borrow.Author.Tests.{eqb-true, eq-eqb, not-true}
use Rattle.model.specs.Limits.{local_count}
use Rattle.model.specs.CaseFile.{Line, Case, item_count, line_at}
use Rattle.model.specs.declared.Kind.{Kind}
use Rattle.model.specs.declared.Kind.TheVariants.{Compute, Store, Load, Input, Assert, Assume, Lock, Unlock}
use Rattle.model.specs.Line.{no_name, target_name, guard_true}
use Rattle.model.specs.Assignment.{Assignment, was_run}
use Rattle.model.specs.Copies.{reads_after}
use Rattle.model.specs.Table.{value_row, demand_rows, value_rows, all_value_rows}
use Rattle.model.specs.Holds.{reads_with, demand_met, holds}
use Rattle.laws.specs.Order.{AllLines}
use Rattle.laws.specs.RowValue.{value_after}
use Rattle.correspondence.specs.Meaning.{Demanded, LinesMet}
use Rattle.laws.specs.AllHold.{AllHold}
use Rattle.laws.proofs.RowReads.{copy_reads, value_row_holds, lock_reads, lock_guard}
use Rattle.correspondence.proofs.Block.{zero_where_true, not_nonzero_where_true}
use Rattle.laws.proofs.AllHold.{all_hold_append, all_hold_split}

-- What is asked of a line that was run alone.
met_where_run : (run met : Bool) → (run ≡ true → met ≡ true) → not run || met ≡ true
met_where_run true met h = h refl
met_where_run false met h = refl

module _ (case : Case) (few : local_count + item_count case ≤ no_name) (α : Assignment) where
  value_of_row : (earlier : List Line) (l : Line) → line_at case l.number ≡ l → holds case α (value_row case earlier l) ≡ true
      → α.value l.number ≡ value_after case α earlier l
  value_of_row earlier l found h = eqb-true _ _ (sym (value_row_holds case few α earlier l found) ∙ h)

  row_of_value : (earlier : List Line) (l : Line) → line_at case l.number ≡ l → α.value l.number ≡ value_after case α earlier l
      → holds case α (value_row case earlier l) ≡ true
  row_of_value earlier l found h = value_row_holds case few α earlier l found ∙ eq-eqb _ _ h

  demand_of_rows : (kind : Kind) (earlier : List Line) (l : Line) → l.kind ≡ kind → line_at case l.number ≡ l
      → AllHold case α (demand_rows kind case earlier l) → was_run case (α.block l.number) ≡ true
      → Demanded kind l (reads_after case α earlier l) (α.value l.number)
  unfolding demand_rows holds demand_met
  demand_of_rows Compute earlier l e found h run = tt
  demand_of_rows Store earlier l e found h run = tt
  demand_of_rows Load earlier l e found h run = tt
  demand_of_rows Input earlier l e found h run = tt
  demand_of_rows Assert earlier l e found h run = tt
  demand_of_rows Assume earlier l e found h run = eqb-true (α.value l.number) 1
      (subst (λ (kind : Kind). demand_met kind l (reads_with case α l 0 0 0 0) (α.value l.number) ≡ true) e (rw (found, run) at h.0))
  demand_of_rows Lock earlier l e found h run = λ on. sym (copy_reads case few α (α.block l.number) earlier (target_name case.G l))
      ∙ zero_where_true (guard_true l (lock_reads case few α earlier l)) (lock_reads case few α earlier l).target
      (not-true _ (subst (λ (kind : Kind). demand_met kind l (lock_reads case few α earlier l) (α.value l.number) ≡ true) e
      (rw (found, run) at h.0)))
      (lock_guard case few α earlier l ∙ on)
  demand_of_rows Unlock earlier l e found h run = tt

  rows_of_demand : (kind : Kind) (earlier : List Line) (l : Line) → l.kind ≡ kind → line_at case l.number ≡ l
      → (was_run case (α.block l.number) ≡ true → Demanded kind l (reads_after case α earlier l) (α.value l.number))
      → AllHold case α (demand_rows kind case earlier l)
  unfolding demand_rows holds demand_met
  rows_of_demand Compute earlier l e found h = tt
  rows_of_demand Store earlier l e found h = tt
  rows_of_demand Load earlier l e found h = tt
  rows_of_demand Input earlier l e found h = tt
  rows_of_demand Assert earlier l e found h = tt
  rows_of_demand Assume earlier l e found h = (
    rw found (met_where_run (was_run case (α.block l.number)) _
        (λ run. subst (λ (kind : Kind). demand_met kind l (reads_with case α l 0 0 0 0) (α.value l.number) ≡ true) (sym e)
        (eq-eqb (α.value l.number) 1 (h run)))),
    tt,
  )
  rows_of_demand Lock earlier l e found h = (
    rw found (met_where_run (was_run case (α.block l.number)) _
        (λ run. subst (λ (kind : Kind). demand_met kind l (lock_reads case few α earlier l) (α.value l.number) ≡ true) (sym e)
        (ap not (not_nonzero_where_true (guard_true l (lock_reads case few α earlier l)) (lock_reads case few α earlier l).target
        (λ on. copy_reads case few α (α.block l.number) earlier (target_name case.G l)
        ∙ h run (sym (lock_guard case few α earlier l) ∙ on)))))),
    tt,
  )
  rows_of_demand Unlock earlier l e found h = tt

  met_of_rows : (earlier ls : List Line) → AllLines (λ l. line_at case l.number ≡ l) ls → AllHold case α (value_rows case earlier ls)
      → LinesMet case α earlier ls
  unfolding value_rows
  met_of_rows earlier [] found h = tt
  met_of_rows earlier (l ∷ ls) found h =
      let parts = all_hold_split case α (demand_rows l.kind case earlier l) (value_rows case (l ∷ earlier) ls) h.1 in (
        record { value = value_of_row earlier l found.0 h.0; demand = demand_of_rows l.kind earlier l refl found.0 parts.front },
        met_of_rows (l ∷ earlier) ls found.1 parts.back,
      )

  rows_of_met : (earlier ls : List Line) → AllLines (λ l. line_at case l.number ≡ l) ls → LinesMet case α earlier ls
      → AllHold case α (value_rows case earlier ls)
  unfolding value_rows
  rows_of_met earlier [] found m = tt
  rows_of_met earlier (l ∷ ls) found m = (
    row_of_value earlier l found.0 m.0.value,
    all_hold_append case α (demand_rows l.kind case earlier l) (value_rows case (l ∷ earlier) ls)
        (rows_of_demand l.kind earlier l refl found.0 m.0.demand) (rows_of_met (l ∷ earlier) ls found.1 m.1),
  )

  pub lines_of_all_rows : (threads : List (List Line)) → ((t : ℕ) → AllLines (λ l. line_at case l.number ≡ l) (get_or threads t []))
      → AllHold case α (all_value_rows case threads) → (t : ℕ) → LinesMet case α [] (get_or threads t [])
  unfolding all_value_rows
  lines_of_all_rows [] found h t = tt
  lines_of_all_rows (ls ∷ threads) found h zero = met_of_rows [] ls (found 0) (all_hold_split case α (value_rows case [] ls) (all_value_rows case threads) h).front
  lines_of_all_rows (ls ∷ threads) found h (suc t) =
      lines_of_all_rows threads (λ j. found (suc j)) (all_hold_split case α (value_rows case [] ls) (all_value_rows case threads) h).back t

  pub all_rows_of_lines : (threads : List (List Line)) → ((t : ℕ) → AllLines (λ l. line_at case l.number ≡ l) (get_or threads t []))
      → ((t : ℕ) → t < length threads → LinesMet case α [] (get_or threads t [])) → AllHold case α (all_value_rows case threads)
  unfolding all_value_rows
  all_rows_of_lines [] found m = tt
  all_rows_of_lines (ls ∷ threads) found m = all_hold_append case α (value_rows case [] ls) (all_value_rows case threads)
      (rows_of_met [] ls (found 0) (m 0 (omega arith))) (all_rows_of_lines threads (λ j. found (suc j)) (λ t h. m (suc t) (omega arith)))
