-- What a line's expression and value are, by kind.
-- Assumes nothing.
use Rattle.std.proofs.Common.{◌≡◌, ℕ, true, false, eqb, List, sym, refl, ap, ◌∙◌, arith}
use Rattle.model.specs.CaseFile.{kind_of}
use Rattle.model.specs.declared.Kind.{Kind}
use Rattle.model.specs.declared.Kind.TheVariants.{Compute, Store, Load, Input, Assert, Assume, Lock, Unlock}
use Rattle.model.specs.Line.{local_name, name_of_a, name_of_b, name_of_target, has_expression, apply, operand_value, expression}
use Rattle.model.specs.Machine.{look}
use Rattle.laws.proofs.Views.{EqView, same, diff, eq_view}
use Rattle.case_file.specs.declared.Record.{Record}
use Rattle.case_file.specs.Records.{as_line}
use Rattle.line.specs.LineReads.{memory, reads_from}

-- Operands of a kind with an expression are locals; op 0 has no operand b.
name_a : (κ : Kind) (a : ℕ) → has_expression κ ≡ true → name_of_a κ a ≡ local_name a
unfolding name_of_a
name_a Compute a e = refl
name_a Store a e = refl
name_a Load a e = absurd (let z : ◌≡◌ {A = ℕ} 0 1 = cc in omega arith)
name_a Input a e = absurd (let z : ◌≡◌ {A = ℕ} 0 1 = cc in omega arith)
name_a Assert a e = refl
name_a Assume a e = refl
name_a Lock a e = absurd (let z : ◌≡◌ {A = ℕ} 0 1 = cc in omega arith)
name_a Unlock a e = absurd (let z : ◌≡◌ {A = ℕ} 0 1 = cc in omega arith)

name_b : (κ : Kind) (op b : ℕ) → has_expression κ ≡ true → eqb op 0 ≡ false → name_of_b κ op b ≡ local_name b
unfolding name_of_b
name_b κ op b has some = rw (has, some)

apply_0 : (op x y y' : ℕ) → op ≡ 0 → apply op x y ≡ apply op x y'
unfolding apply
apply_0 op x y y' e = rw e

apply_b : (κ : Kind) (op b c x : ℕ) (value : ℕ → ℕ) → has_expression κ ≡ true
    → apply op x (operand_value b c (value (local_name b))) ≡ apply op x (operand_value b c (value (name_of_b κ op b)))
apply_b κ op b c x value has = go (eq_view op 0)
  where
    go : EqView op 0 → apply op x (operand_value b c (value (local_name b))) ≡ apply op x (operand_value b c (value (name_of_b κ op b)))
    go (same e q) = apply_0 op x _ _ e
    go (diff e q) = ap (λ (name : ℕ). apply op x (operand_value b c (value name))) (sym (name_b κ op b has q))

module _ (G count given : ℕ) (locals items : List ℕ) (l : Record) (k : ℕ) (has : has_expression l.kind ≡ true) where
  abbrev value : ℕ → ℕ
  value name = look (memory locals items count) name

  pub expression_is : (x y r : ℕ) → x ≡ operand_value l.a l.c (value (local_name l.a))
      → y ≡ operand_value l.b l.c (value (local_name l.b)) → r ≡ apply l.op x y
      → r ≡ expression (as_line l k) (reads_from G count given locals items (as_line l k))
  unfolding expression
  expression_is x y r is_x is_y is-r =
      is-r
      ∙ ap (λ (z : ℕ). apply l.op z y) (is_x ∙ ap (λ (z : ℕ). operand_value l.a l.c (value z)) (sym (name_a l.kind l.a has)))
      ∙ ap (apply l.op (operand_value l.a l.c (value (name_of_a l.kind l.a)))) is_y
      ∙ apply_b l.kind l.op l.b l.c _ value has

-- What a name of the line is, by its kind.
module _ (locals items : List ℕ) (G count k : ℕ) (kind : Kind) (is : kind_of k ≡ kind) (v : ℕ) where
  pub reads_a : (a : ℕ) → v ≡ look (memory locals items count) (name_of_a kind a) → v ≡ look (memory locals items count) (name_of_a (kind_of k) a)
  reads_a a e = e ∙ ap (λ (x : Kind). look (memory locals items count) (name_of_a x a)) (sym is)

  pub reads_target : (target : ℕ) → v ≡ look (memory locals items count) (name_of_target G kind target) → v ≡ look (memory locals items count) (name_of_target G (kind_of k) target)
  reads_target target e = e ∙ ap (λ (x : Kind). look (memory locals items count) (name_of_target G x target)) (sym is)
