-- The 4 and the 5 of a line fail where its value or its demand does, with what it reads after the earlier lines.
-- Assumes nothing.
use mathlib.Core.Path.{◌≡◌, refl, sym, ap, ap₂, subst}
use Prim.Native.Nat.{ℕ, suc, ◌+◌, ◌≤◌}
use mathlib.Core.Bool.{Bool, true, false, cond, not, ◌&&◌, ◌||◌}
use mathlib.Core.List.{List, ◌∷◌}
use native.Mathlib.Omega.{arith}
use lib.Dec.{eqb}
use lib.ListN.{length}
use Rattle.std.specs.Prelude.{⊤, Result, Ok, Err}
use Rattle.model.specs.Word.{nonzero}
use Rattle.model.specs.Limits.{local_count}
use Rattle.model.specs.CaseFile.{Line, Case, case_of, item_count, line_at}
use Rattle.model.specs.declared.Kind.{Kind}
use Rattle.model.specs.declared.Kind.TheVariants.{Compute, Store, Load, Input, Assert, Assume, Lock, Unlock}
use Rattle.model.specs.Line.{no_name, guard_name, target_name, Reads}
use Rattle.model.specs.Assignment.{Assignment, assignment_of, was_run}
use Rattle.model.specs.Copies.{copy_of, reads_after}
use Rattle.model.specs.Table.{Row, row, value_row, demand_rows}
use Rattle.model.specs.Holds.{reads_with, demand_met, holds}
use Rattle.laws.proofs.RowReads.{copy_reads, value_row_holds, lock_reads, lock_guard}
use Rattle.search.specs.declared.Failed.{Failed}
use Rattle.search.specs.Search.{searched}
use Rattle.value_check.specs.declared.Asked.{Asked}
use Rattle.value_check.specs.Asking.{Asks, failing_asked}

-- Where both hold, the number of the next constraint.
abbrev pub then_next : ℕ → Result ⊤ Failed → Result ℕ Failed
then_next n (Ok _) = Ok n
then_next n (Err failed) = Err failed

module _ (bytes xs : List ℕ) (few : local_count + item_count (case_of bytes) ≤ no_name) (earlier : List Line) (l : Line) (found : line_at (case_of bytes) l.number ≡ l) where
  abbrev case : Case
  case = case_of bytes

  abbrev α : Assignment
  α = assignment_of case xs

  abbrev reads : Reads
  reads = reads_after case α earlier l

  abbrev value : ℕ
  value = α.value l.number

  abbrev run : Bool
  run = was_run case (α.block l.number)

  -- A 5 holds where the line was not run or its demand is met.
  assume_holds : (kind : Kind) → l.kind ≡ kind → kind ≡ Assume → holds case α (row 5 l.number 0 0 0 0) ≡ (not run || demand_met kind l reads value)
  unfolding holds demand_met
  assume_holds kind e z =
      rw found
      (ap (λ (met : Bool). not run || met)
      (subst (λ (k : Kind). demand_met k l (reads_with case α l 0 0 0 0) value ≡ demand_met kind l reads value) (sym e) (rw z)))

  lock_holds : (kind : Kind) → l.kind ≡ kind → kind ≡ Lock
      → holds case α (row 5 l.number (copy_of case.G (guard_name l) earlier) (copy_of case.G (target_name case.G l) earlier) 0 0)
      ≡ (not run || demand_met kind l reads value)
  unfolding holds demand_met
  lock_holds kind e z =
      rw found
      (ap (λ (met : Bool). not run || met)
      (subst (λ (k : Kind). demand_met k l (lock_reads case few α earlier l) value ≡ demand_met kind l reads value) (sym e)
      (rw z (ap₂ (λ (on : Bool) (x : ℕ). not (on && nonzero x)) (lock_guard case few α earlier l) (copy_reads case few α (α.block l.number) earlier (target_name case.G l))))))

  no_demand : (q : Bool) (at n : ℕ) → n ≡ at → then_next n (cond (q || true) (Ok tt) (Err (record { constraint = at }))) ≡ Ok at
  no_demand true at n e = ap Ok e
  no_demand false at n e = ap Ok e

  one_demand : (q : Bool) (at : ℕ) → then_next (at + 1) (cond q (Ok tt) (Err (record { constraint = at }))) ≡ cond q (Ok (suc at)) (Err (record { constraint = at }))
  one_demand true at = ap Ok (omega arith)
  one_demand false at = refl

  demand_searched : (kind : Kind) → l.kind ≡ kind → (at : ℕ)
      → then_next (at + length (demand_rows kind case earlier l)) (cond (not run || demand_met kind l reads value) (Ok tt) (Err (record { constraint = at })))
      ≡ searched bytes xs at (demand_rows kind case earlier l)
  unfolding demand_rows demand_met searched
  demand_searched Compute e at = no_demand (not run) at _ (omega arith)
  demand_searched Store e at = no_demand (not run) at _ (omega arith)
  demand_searched Load e at = no_demand (not run) at _ (omega arith)
  demand_searched Input e at = no_demand (not run) at _ (omega arith)
  demand_searched Assert e at = no_demand (not run) at _ (omega arith)
  demand_searched Assume e at = rw (assume_holds Assume e refl) (one_demand (not run || demand_met Assume l reads value) at)
  demand_searched Lock e at = rw (lock_holds Lock e refl) (one_demand (not run || demand_met Lock l reads value) at)
  demand_searched Unlock e at = no_demand (not run) at _ (omega arith)

  abbrev rows : List Row
  rows = value_row case earlier l ∷ demand_rows l.kind case earlier l

  pub line_searched : {r : Asked} → Asks run case.G l reads value r → (at : ℕ) → then_next (at + length rows) (failing_asked at r value) ≡ searched bytes xs at rows
  unfolding failing_asked searched
  line_searched {r} asks at =
      rw (value_row_holds case few α earlier l found, ← asks.asking, asks.meeting)
      (go (eqb value r.value))
    where
      go : (q : Bool)
          → then_next (at + length rows) (cond q (cond (not run || demand_met l.kind l reads value) (Ok tt) (Err (record { constraint = at + 1 }))) (Err (record { constraint = at })))
          ≡ cond q (searched bytes xs (suc at) (demand_rows l.kind case earlier l)) (Err (record { constraint = at }))
      go true =
          let one : at + 1 ≡ suc at = omega arith in
          let all : at + length rows ≡ suc at + length (demand_rows l.kind case earlier l) = omega arith in
          rw (one, all) (demand_searched l.kind refl (suc at))
      go false = refl
