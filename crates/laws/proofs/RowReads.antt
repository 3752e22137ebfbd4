-- What the 4 and the 5 of a line read with their copies is what is read after the earlier lines.
-- Assumes nothing. Met again in correspondence's ValueRows, and where the checker asks whether a line's 4 and 5 hold.
use mathlib.Core.Path.{◌≡◌, sym, ap, ◌∙◌, fun_ext}
use Prim.Native.Nat.{ℕ, ◌+◌, ◌≤◌}
use mathlib.Core.Bool.{true, cond}
use mathlib.Core.List.{List}
use native.Mathlib.Omega.{arith}
use lib.Dec.{eqb, ltb}
use Rattle.model.specs.Word.{nonzero}
use Rattle.model.specs.Limits.{local_count}
use Rattle.model.specs.CaseFile.{Line, Case, item_count, line_at}
use Rattle.model.specs.Line.{no_name, guard_name, target_name, Reads, reads_of, guard_true, value_of, unrun_value}
use Rattle.model.specs.Assignment.{Assignment, was_run}
use Rattle.model.specs.Copies.{copy_of, read_name, read_after, reads_after}
use Rattle.model.specs.Table.{value_row}
use Rattle.model.specs.Holds.{reads_with, holds}
use Rattle.laws.specs.RowValue.{value_after}
use Rattle.laws.proofs.Views.{LtView, below, above, lt_view}
use Rattle.laws.proofs.Copies.{read_name_no_name}

pub guard_same : (l : Line) (r r' : Reads) → r.guard ≡ r'.guard → guard_true l r ≡ guard_true l r'
unfolding guard_true
guard_same l r r' e = ap (λ (x : ℕ). cond (eqb l.guard 0) true (cond (ltb l.guard 17) (nonzero x) (eqb x 0))) e

module _ (case : Case) (few : local_count + item_count case ≤ no_name) (α : Assignment) where
  -- the copy that the table has for a name reads as the name
  pub copy_reads : (i : ℕ) (earlier : List Line) (name : ℕ) → read_name case α i name (copy_of case.G name earlier) ≡ read_after case α i earlier name
  unfolding copy_of read_after
  copy_reads i earlier name = go (lt_view name no_name)
    where
      go : LtView name no_name → read_name case α i name (copy_of case.G name earlier) ≡ read_after case α i earlier name
      go (below h q) = rw q
      go (above h q) = read_name_no_name case α i name _ (omega arith) ∙ sym (read_name_no_name case α i name _ (omega arith))

  row_reads : (earlier : List Line) (l : Line)
      → reads_of case.G (λ name. read_name case α (α.block l.number) name (copy_of case.G name earlier)) l (α.value l.number)
      ≡ reads_after case α earlier l
  row_reads earlier l = ap (λ (f : ℕ → ℕ). reads_of case.G f l (α.value l.number)) (fun_ext (copy_reads (α.block l.number) earlier))

  pub value_row_holds : (earlier : List Line) (l : Line) → line_at case l.number ≡ l
      → holds case α (value_row case earlier l) ≡ eqb (α.value l.number) (value_after case α earlier l)
  unfolding holds
  value_row_holds earlier l found =
      rw found (ap (λ (reads : Reads). eqb (α.value l.number) (cond (was_run case (α.block l.number)) (value_of l reads) (unrun_value l.kind))) (row_reads earlier l))

  -- what constraint 5 reads of a lock
  abbrev pub lock_reads : List Line → Line → Reads
  lock_reads earlier l = reads_with case α l (copy_of case.G (guard_name l) earlier) 0 0 (copy_of case.G (target_name case.G l) earlier)

  pub lock_guard : (earlier : List Line) (l : Line) → guard_true l (lock_reads earlier l) ≡ guard_true l (reads_after case α earlier l)
  lock_guard earlier l = guard_same l (lock_reads earlier l) (reads_after case α earlier l) (copy_reads (α.block l.number) earlier (guard_name l))
