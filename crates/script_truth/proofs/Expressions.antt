-- Guards, operands and expressions of a line: their terms and formulas have the model's values, for fields that check 9 lets pass.
-- Assumes nothing. Met again in Lines.
use mathlib.Core.Path.{◌≡◌, refl, sym, ap, ap₂, ◌∙◌}
use mathlib.Core.Logic.{◌≢◌}
use Prim.Native.Nat.{ℕ, zero, suc, ◌-◌, ◌≤◌, ◌<◌}
use mathlib.Core.Bool.{Bool, true, false, cond, not, true≢false}
use mathlib.Core.List.{List}
use native.Mathlib.Omega.{arith}
use lib.Dec.{eqb, ltb}
use borrow.Author.Tests.{lt-ltb, ne_eqb}
use Rattle.model.specs.Word.{bit, nonzero}
use Rattle.model.specs.Limits.{local_count, highest_op}
use Rattle.model.specs.CaseFile.{Line, Case}
use Rattle.model.specs.declared.Kind.{Kind}
use Rattle.model.specs.declared.Kind.TheVariants.{Compute, Store, Load, Input, Assert, Assume, Lock, Unlock}
use Rattle.model.specs.Line.{local_name, guard_name, name_of_a, has_expression, name_of_b, Reads, guard_true, apply, operand_value, expression}
use Rattle.model.specs.Assignment.{Assignment, assignment_of}
use Rattle.model.specs.Copies.{read_local, read_name}
use Rattle.model.specs.Holds.{reads_with}
use Rattle.smt.specs.Term.{Term, value, meets, tested, result_of}
use Rattle.smt.specs.Script.{environment}
use Rattle.script.specs.Assertions.{equal, operand, comparison, operation, with_facts, is_expression, is_truth}
use Rattle.script.specs.Assertions
use Rattle.laws.proofs.Views.{EqView, same, diff, eq_view, LtView, below, above, lt_view}
use Rattle.script_truth.proofs.Fields.{Fields}
use Rattle.script_truth.proofs.Links.{same_value, with_facts_lem}
use Rattle.script_truth.proofs.Reading.{local_value}

cond_is_bit : (p : Bool) → cond p 1 0 ≡ bit p
cond_is_bit true = refl
cond_is_bit false = refl

cond_is_not_bit : (p : Bool) → cond p 0 1 ≡ bit (not p)
cond_is_not_bit true = refl
cond_is_not_bit false = refl

-- The operand a of a line that has an expression, and the operand b where op is not 0.
name_of_a_lem : (kind : Kind) (a : ℕ) → has_expression kind ≡ true → name_of_a kind a ≡ local_name a
unfolding name_of_a
name_of_a_lem Compute a has = refl
name_of_a_lem Store a has = refl
name_of_a_lem Load a has = absurd (true≢false (sym has))
name_of_a_lem Input a has = absurd (true≢false (sym has))
name_of_a_lem Assert a has = refl
name_of_a_lem Assume a has = refl
name_of_a_lem Lock a has = absurd (true≢false (sym has))
name_of_a_lem Unlock a has = absurd (true≢false (sym has))

second_operand : (op x y y' : ℕ) → (op ≢ 0 → y ≡ y') → apply op x y ≡ apply op x y'
unfolding apply
second_operand op x y y' h = go (eq_view op 0)
  where
    go : EqView op 0 → apply op x y ≡ apply op x y'
    go (same e q) = rw e
    go (diff some q) = ap (apply op x) (h some)

module _ (env : ℕ → ℕ) where
  operation_value : (op : ℕ) (x y : Term) → op ≤ highest_op → value (Assertions.expression op x y) env ≡ apply op (value x env) (value y env)
  unfolding Assertions.expression operation comparison apply value tested result_of
  operation_value zero x y h = refl
  operation_value (suc zero) x y h = refl
  operation_value (suc (suc zero)) x y h = refl
  operation_value (suc (suc (suc zero))) x y h = refl
  operation_value (suc (suc (suc (suc zero)))) x y h = refl
  operation_value (suc (suc (suc (suc (suc zero))))) x y h = cond_is_bit (eqb (value x env) (value y env))
  operation_value (suc (suc (suc (suc (suc (suc zero)))))) x y h = cond_is_bit (ltb (value x env) (value y env))
  operation_value (suc (suc (suc (suc (suc (suc (suc op))))))) x y h = absurd (omega arith)

  module _ (sources : List ℕ) (v : Term) (op : ℕ) (x y : Term) (few : op ≤ highest_op) where
    pub expression_is : meets (is_expression sources v op x y) env ≡ eqb (value v env) (apply op (value x env) (value y env))
    unfolding is_expression meets tested apply
    expression_is = go (eq_view op 0)
      where
        go : EqView op 0 → meets (is_expression sources v op x y) env ≡ eqb (value v env) (apply op (value x env) (value y env))
        go (same e q) = rw q (same_value env sources v x)
        go (diff e q) =
            ap (λ (p : Bool). meets (cond p (Assertions.same sources v x) (with_facts sources op x y (equal v (Assertions.expression op x y)))) env) q
            ∙ with_facts_lem env sources op x y (equal v (Assertions.expression op x y)) ∙ ap (eqb (value v env)) (operation_value op x y few)

    pub truth_is : meets (is_truth sources v op x y) env ≡ eqb (value v env) (bit (nonzero (apply op (value x env) (value y env))))
    unfolding is_truth meets value tested
    truth_is =
        with_facts_lem env sources op x y _
        ∙ ap (eqb (value v env)) (cond_is_not_bit (eqb (value (Assertions.expression op x y) env) 0)
        ∙ ap (λ (n : ℕ). bit (nonzero n)) (operation_value op x y few))

module _ (case : Case) (xs : List ℕ) where
  abbrev env : ℕ → ℕ
  env = environment xs

  abbrev α : Assignment
  α = assignment_of case xs

  local_is_read : (i x p : ℕ) → x < local_count → read_name case α i (local_name x) p ≡ read_local α p
  unfolding read_name local_name
  local_is_read i x p h = rw (lt-ltb x local_count h, lt-ltb x local_count h)

  operand_value_lem : (i x c p : ℕ) → x ≤ local_count → value (operand x c p) env ≡ operand_value x c (read_name case α i (local_name x) p)
  unfolding operand value
  operand_value_lem i x c p h = go (eq_view x local_count)
    where
      go : EqView x local_count → value (operand x c p) env ≡ operand_value x c (read_name case α i (local_name x) p)
      go (same e q) = rw q
      go (diff e q) = rw q (local_value case xs p ∙ sym (local_is_read i x p (omega arith)))

  -- A guard that is not "always".
  pub guard_value : (l : Line) (guard : ℕ) (reads : Reads) → Fields l → l.guard ≢ 0
      → reads.guard ≡ read_name case α (α.block l.number) (guard_name l) guard → meets (Assertions.guard_true l guard) env ≡ guard_true l reads
  unfolding Assertions.guard_true guard_true guard_name meets value tested
  guard_value l guard reads fields some e = go (lt_view l.guard 17)
    where
      always_not : eqb l.guard 0 ≡ false
      always_not = ne_eqb l.guard 0 some

      go : LtView l.guard 17 → meets (Assertions.guard_true l guard) env ≡ guard_true l reads
      go (below h q) =
          rw (always_not, q, e, always_not, q) (ap nonzero (local_value case xs guard ∙ sym (local_is_read _ (l.guard - 1) guard (omega arith))))
      go (above h q) =
          rw (always_not, q, e, always_not, q)
          (ap (λ (n : ℕ). eqb n 0) (local_value case xs guard ∙ sym (local_is_read _ (l.guard - 17) guard (omega (arith, fields.guard)))))

  -- The expression of a line that has one, with these copies of its operands.
  pub line_expression : (l : Line) (guard a b target : ℕ) → Fields l → has_expression l.kind ≡ true
      → apply l.op (value (operand l.a l.c a) env) (value (operand l.b l.c b) env) ≡ expression l (reads_with case α l guard a b target)
  unfolding expression name_of_b
  line_expression l guard a b target fields has =
      let first = operand_value_lem (α.block l.number) l.a l.c a fields.a in
      let second = operand_value_lem (α.block l.number) l.b l.c b fields.b in
      ap₂ (λ (x y : ℕ). apply l.op x y) (rw (name_of_a_lem l.kind l.a has) first) refl
      ∙ second_operand l.op _ _ _ (λ some. rw (has, ne_eqb l.op 0 some) second)
