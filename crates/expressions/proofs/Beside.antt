-- An equation with an expression, and the facts that stand beside it or not. Assumes nothing. Met again in `put_facts_before`,
-- `put_facts_behind`, `put_value_of`, `put_truth_of`, `put_is_expression` and `put_is_truth`.
use mathlib.Core.Path.{◌≡◌, sym, ◌∙◌}
use mathlib.Core.Bool.{Bool, true, false, cond, ◌&&◌}
use Prim.Native.Nat.{ℕ, ◌*◌, ◌≤◌}
use mathlib.Core.List.{List, [], ◌++◌, append_assoc, append-nil}
use lib.Dec.{leb}
use lib.ListN.{length}
use borrow.Author.Tests.{ne_eqb}
use Rattle.model.specs.CaseFile.{Case}
use Rattle.smt.specs.Term.{Term, constant, choice, Formula}
use Rattle.smt.specs.Spelling.{ascii, two, three, four_hex, term_text, formula_text}
use Rattle.script.specs.Assertions.{equal, is_zero, sources_of, is_variable, comparison, expression, facts, with_facts, is_expression, is_truth}
use Rattle.spell.specs.declared.Writer.{Writer}
use Rattle.spell.specs.Spelt.{top, Puts}
use Rattle.spell.specs.Atoms.{closing}
use Rattle.spell.proofs.Spelling.{puts_nothing, puts_then, puts_as}
use Rattle.linked.specs.Shape.{HasSources, source_list}
use Rattle.linked.specs.declared.Sources.{Sources}
use Rattle.expressions.specs.Facts.{fact_heads, has_facts, facts_before, facts_behind}
use Rattle.expressions.proofs.Facts.{facts_text}

-- Without facts nothing stands before and nothing behind.
module _ (op : ℕ) (x y : Term) {p : Bool} (e : p ≡ has_facts op x y) (t : p ≡ false) {d : Writer} (h : d.at ≤ top) where
  pub before_none : (sources : List ℕ) → Puts (facts_before sources op x y) d d
  unfolding facts_before
  before_none sources = rw (sym e ∙ t) (puts_nothing h)

  pub behind_none : (many : ℕ) → Puts (facts_behind many op x y) d d
  unfolding facts_behind
  behind_none many = rw (sym e ∙ t) (puts_nothing h)

with_facts_text : (sources : List ℕ) (op : ℕ) (x y : Term) (base : Formula)
    → formula_text (with_facts sources op x y base) ≡ facts_before sources op x y ++ (formula_text base ++ facts_behind (length sources) op x y)
unfolding with_facts facts_before facts_behind has_facts
with_facts_text sources op x y base = go (leb 5 op && (is_variable x && is_variable y))
  where
    go : (p : Bool) → formula_text (cond p (facts (comparison op) x y sources sources base) base)
        ≡ cond p (fact_heads (comparison op) x y sources sources) [] ++ (formula_text base ++ cond p (closing (length sources * length sources)) [])
    go true = facts_text (comparison op) x y sources sources base
    go false = sym (append-nil (formula_text base))

-- The equations.
module _ (v w : Term) {e₀ e₁ e₂ e₃ e₄ e₅ : Writer} where
  pub value_spelt : Puts (ascii "(= ") e₀ e₁ → Puts (term_text v) e₁ e₂ → Puts (ascii " ") e₂ e₃ → Puts (term_text w) e₃ e₄ → Puts (ascii ")") e₄ e₅
      → Puts (formula_text (equal v w)) e₀ e₅
  unfolding formula_text
  value_spelt word first blank second close = puts_then word (puts_then first (puts_then blank (puts_then second close)))

  pub truth_spelt : Puts (ascii "(= ") e₀ e₁ → Puts (term_text v) e₁ e₂ → Puts (ascii " (ite (= ") e₂ e₃ → Puts (term_text w) e₃ e₄
      → Puts (ascii " #x0000) #x0000 #x0001))") e₄ e₅ → Puts (formula_text (equal v (choice (is_zero w) (constant 0) (constant 1)))) e₀ e₅
  unfolding term_text formula_text four_hex
  truth_spelt word first asks second close = puts_as (words (term_text v) (term_text w)) (puts_then word (puts_then first (puts_then asks (puts_then second close))))
    where
      words : (A B : List ℕ) → ascii "(= " ++ (A ++ (ascii " (ite (= " ++ (B ++ ascii " #x0000) #x0000 #x0001))")))
          ≡ two (ascii "(= ") A (three (ascii "(ite ") (two (ascii "(= ") B (ascii "#x0000")) (ascii "#x0000") (ascii "#x0001"))
      words A B = simp append_assoc

-- The equations of a case's lines.
module _ {case : Case} {sources : Sources} (s : HasSources case sources) (v : Term) (op : ℕ) (x y : Term) {d a : Writer} where
  module _ {b e : Writer} (before : Puts (facts_before (source_list sources) op x y) d a) where
    beside_spelt : (base : Formula) → Puts (formula_text base) a b → Puts (facts_behind (length (source_list sources)) op x y) b e
        → Puts (formula_text (with_facts (sources_of case) op x y base)) d e
    beside_spelt base equation behind =
        puts_as (rw s.list (sym (with_facts_text (sources_of case) op x y base))) (puts_then before (puts_then equation behind))

    pub expression_spelt : (op ≡ 0 → ⊥) → Puts (formula_text (equal v (expression op x y))) a b
        → Puts (facts_behind (length (source_list sources)) op x y) b e
        → Puts (formula_text (is_expression (sources_of case) v op x y)) d e
    unfolding is_expression
    expression_spelt h equation behind = rw (ne_eqb op 0 h) (beside_spelt (equal v (expression op x y)) equation behind)

    pub is_truth_spelt : Puts (formula_text (equal v (choice (is_zero (expression op x y)) (constant 0) (constant 1)))) a b
        → Puts (facts_behind (length (source_list sources)) op x y) b e
        → Puts (formula_text (is_truth (sources_of case) v op x y)) d e
    unfolding is_truth
    is_truth_spelt equation behind = beside_spelt (equal v (choice (is_zero (expression op x y)) (constant 0) (constant 1))) equation behind
