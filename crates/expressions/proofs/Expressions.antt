-- Comparisons and expressions of two atoms. Assumes nothing. Met again in `put_comparison` and `put_expression`.
use mathlib.Core.Path.{◌≡◌}
use Prim.Native.Nat.{ℕ, ◌≤◌, ◌<◌}
use native.Mathlib.Omega.{arith}
use borrow.Author.Tests.{ne_eqb, lt-ltb, le-ltb}
use Rattle.smt.specs.Term.{Term, test}
use Rattle.smt.specs.Spelling.{ascii, operation_word, four_hex, term_text, formula_text}
use Rattle.script.specs.Assertions.{comparison, operation, expression}
use Rattle.spell.specs.declared.Writer.{Writer}
use Rattle.spell.specs.Spelt.{Puts}
use Rattle.spell.specs.Atoms.{atom_term, two_atoms}
use Rattle.spell.specs.declared.Atom.{Atom}
use Rattle.spell.proofs.Spelling.{puts_then}

module _ (op : ℕ) where
  module _ (x y : Term) {d a : Writer} where
    pub expression_bit : {b e : Writer} → 5 ≤ op
        → Puts (ascii "(ite ") d a → Puts (formula_text (test (comparison op) x y)) a b
        → Puts (ascii " #x0001 #x0000)") b e → Puts (term_text (expression op x y)) d e
    unfolding expression term_text four_hex
    expression_bit h word compared rest = rw (ne_eqb op 0 (λ e. omega (arith, e, h)), le-ltb op 5 h) (puts_then word (puts_then compared rest))

  module _ (x y : Atom) {d a b : Writer} where
    pub comparison_less : (op ≡ 5 → ⊥) → Puts (ascii "(bvult ") d a → Puts (two_atoms x y) a b
        → Puts (formula_text (test (comparison op) (atom_term x) (atom_term y))) d b
    unfolding comparison formula_text two_atoms
    comparison_less h word both = rw (ne_eqb op 5 h) (puts_then word both)

    pub expression_apply : (op ≡ 0 → ⊥) → op < 5 → Puts (operation_word (operation op)) d a → Puts (two_atoms x y) a b
        → Puts (term_text (expression op (atom_term x) (atom_term y))) d b
    unfolding expression term_text two_atoms
    expression_apply h few word both = rw (ne_eqb op 0 h, lt-ltb op 5 few) (puts_then word both)
