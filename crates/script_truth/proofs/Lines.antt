-- What constraints 4 and 5 ask of a line that was run: the formula is true exactly if it is so, where the line is in one of its thread's
-- blocks.
-- Assumes nothing. Met again in Rows.
use mathlib.Core.Path.{◌≡◌, refl, sym, ap, ◌∙◌}
use Prim.Native.Nat.{ℕ}
use mathlib.Core.Bool.{Bool, true, false, cond, not, ◌&&◌, ◌||◌}
use mathlib.Core.List.{List}
use lib.Dec.{eqb}
use borrow.Author.Tests.{eq-eqb, ne_eqb}
use Rattle.model.specs.Word.{bit, nonzero}
use Rattle.model.specs.CaseFile.{Line, Case}
use Rattle.model.specs.declared.Kind.{Kind}
use Rattle.model.specs.declared.Kind.TheVariants.{Compute, Store, Load, Input, Assert, Assume, Lock, Unlock}
use Rattle.model.specs.Line.{has_expression, operand_a, target_name, Reads, guard_true, expression, guarded_in_value, guarded_out_value, value_by, value_of}
use Rattle.model.specs.Assignment.{Assignment, assignment_of}
use Rattle.model.specs.Holds.{reads_with, demand_met}
use Rattle.smt.specs.Term.{constant, value, meets, tested, joined}
use Rattle.smt.specs.Script.{environment}
use Rattle.script.specs.Assertions.{guarded_in, guarded_out, line_assertion, mutex_reads, demand_assertion}
use Rattle.script.specs.Assertions
use Rattle.laws.proofs.Views.{EqView, same, diff, eq_view}
use Rattle.script_truth.proofs.Fields.{Fields}
use Rattle.script_truth.proofs.Reading.{OwnBlock, name_is_read}
use Rattle.script_truth.proofs.Expressions.{expression_is, truth_is, guard_value, line_expression}

cond_of_eqb : (p : Bool) (v x y : ℕ) → cond p (eqb v x) (eqb v y) ≡ eqb v (cond p x y)
cond_of_eqb true v x y = refl
cond_of_eqb false v x y = refl

guard_always : (l : Line) (reads : Reads) → l.guard ≡ 0 → guard_true l reads ≡ true
unfolding guard_true
guard_always l reads e = rw e

-- "a lock whose guard is true reads 0", said of the guard and of "0 is what is read".
not_nonzero : (n : ℕ) → eqb 0 n ≡ not (nonzero n)
not_nonzero n = go (eq_view n 0)
  where
    go : EqView n 0 → eqb 0 n ≡ not (nonzero n)
    go (same e q) = rw e
    go (diff e q) = rw (q, ne_eqb 0 n (λ z. e (sym z)))

lock_reads_zero : (p : Bool) (n : ℕ) → (not p || eqb 0 n) ≡ not (p && nonzero n)
lock_reads_zero true n = not_nonzero n
lock_reads_zero false n = refl

module _ (case : Case) (xs sources : List ℕ) (l : Line) (fields : Fields l)
    (own : OwnBlock case l.thread ((assignment_of case xs).block l.number)) where
  abbrev env : ℕ → ℕ
  env = environment xs

  abbrev α : Assignment
  α = assignment_of case xs

  module _ (guard a b target : ℕ) where
    abbrev reads : Reads
    reads = reads_with case α l guard a b target

    is_line_expression : has_expression l.kind ≡ true
        → meets (Assertions.operands_of (Assertions.is_expression sources (Assertions.value_of l.number) l.op) l a b) env
        ≡ eqb (α.value l.number) (expression l reads)
    unfolding value assignment_of
    is_line_expression has =
        expression_is env sources (Assertions.value_of l.number) l.op _ _ fields.op
        ∙ ap (eqb (α.value l.number)) (line_expression case xs l guard a b target fields has)

    is_line_truth : has_expression l.kind ≡ true
        → meets (Assertions.operands_of (Assertions.is_truth sources (Assertions.value_of l.number) l.op) l a b) env
        ≡ eqb (α.value l.number) (bit (nonzero (expression l reads)))
    unfolding value assignment_of
    is_line_truth has =
        truth_is env sources (Assertions.value_of l.number) l.op _ _ fields.op
        ∙ ap (λ (n : ℕ). eqb (α.value l.number) (bit (nonzero n))) (line_expression case xs l guard a b target fields has)

    in_value : (kind : Kind) → l.kind ≡ kind
        → meets (guarded_in kind case sources l a b) env ≡ eqb (α.value l.number) (guarded_in_value kind l reads)
    unfolding guarded_in guarded_in_value meets value tested assignment_of
    in_value Compute e = is_line_expression (ap has_expression e)
    in_value Store e = is_line_expression (ap has_expression e)
    in_value Load e = name_is_read case xs sources (Assertions.value_of l.number) l own (operand_a l) a
    in_value Input e = sym (eq-eqb (α.value l.number) (α.value l.number) refl)
    in_value Assert e = is_line_truth (ap has_expression e)
    in_value Assume e = is_line_truth (ap has_expression e)
    in_value Lock e = refl
    in_value Unlock e = refl

    old_target_lem : meets (Assertions.old_target case sources l target) env ≡ eqb (α.value l.number) reads.target
    unfolding value assignment_of
    old_target_lem = name_is_read case xs sources (Assertions.value_of l.number) l own (target_name case.G l) target

    out_value : (kind : Kind) → meets (guarded_out kind case sources l target) env ≡ eqb (α.value l.number) (guarded_out_value kind reads)
    unfolding guarded_out guarded_out_value meets value tested assignment_of
    out_value Compute = old_target_lem
    out_value Store = old_target_lem
    out_value Load = old_target_lem
    out_value Input = old_target_lem
    out_value Assert = refl
    out_value Assume = refl
    out_value Lock = old_target_lem
    out_value Unlock = old_target_lem

    pub line_value : meets (line_assertion case sources l guard a b target) env ≡ eqb (α.value l.number) (value_of l reads)
    unfolding line_assertion value_by meets
    line_value = go (eq_view l.guard 0)
      where
        go : EqView l.guard 0 → meets (line_assertion case sources l guard a b target) env ≡ eqb (α.value l.number) (value_of l reads)
        go (same e q) = rw (q, guard_always l reads e) (in_value l.kind refl)
        go (diff some q) =
            rw (q, guard_value case xs l guard reads fields some refl, in_value l.kind refl, out_value l.kind)
            (cond_of_eqb (guard_true l reads) _ _ _)

  module _ (guard target : ℕ) where
    abbrev demand_reads : Reads
    demand_reads = reads_with case α l guard 0 0 target

    pub mutex_value : (n : ℕ) → meets (mutex_reads case sources (constant n) l guard target) env ≡ (not (guard_true l demand_reads) || eqb n demand_reads.target)
    unfolding mutex_reads meets value joined
    mutex_value n = go (eq_view l.guard 0)
      where
        read : meets (Assertions.read_name case sources (constant n) l (target_name case.G l) target) env ≡ eqb n demand_reads.target
        read = name_is_read case xs sources (constant n) l own (target_name case.G l) target

        go : EqView l.guard 0
            → meets (mutex_reads case sources (constant n) l guard target) env ≡ (not (guard_true l demand_reads) || eqb n demand_reads.target)
        go (same e q) = rw (q, guard_always l demand_reads e) read
        go (diff some q) = rw (q, guard_value case xs l guard demand_reads fields some refl, read)

    pub demand_value : (kind : Kind)
        → meets (demand_assertion kind case sources l guard target) env ≡ demand_met kind l demand_reads (α.value l.number)
    unfolding demand_assertion demand_met meets value tested assignment_of
    demand_value Compute = refl
    demand_value Store = refl
    demand_value Load = refl
    demand_value Input = refl
    demand_value Assert = refl
    demand_value Assume = refl
    demand_value Lock = mutex_value 0 ∙ lock_reads_zero (guard_true l demand_reads) demand_reads.target
    demand_value Unlock = refl
