-- The assertions of the order rows. Assumes nothing. Met again in `put_own`, `put_three`, `put_eight` and `put_at_most`.
use mathlib.Core.Path.{◌≡◌}
use Prim.Native.Nat.{ℕ, ◌-◌, ◌*◌}
use mathlib.Core.List.{List, ◌++◌, append_assoc}
use Rattle.smt.specs.Term.{bvurem, bvule, disjunction, variable, constant, apply, test, Formula, join}
use Rattle.smt.specs.Spelling.{ascii, term_text, formula_text}
use Rattle.script.specs.Assertions.{equal, block_of, not_run}
use Rattle.spell.specs.declared.Writer.{Writer}
use Rattle.spell.specs.Spelt.{Puts}
use Rattle.spell.specs.Atoms.{atom_term, two_atoms}
use Rattle.spell.specs.declared.Atom.{Atom}
use Rattle.spell.specs.declared.Atom.TheVariants.{Variable, Constant}
use Rattle.spell.proofs.Spelling.{puts_then, puts_as}
use Rattle.model.specs.CaseFile.{Case}

module _ {d a b e f g : Writer} where
  pub own_spelt : (k threads t : ℕ) {block : ℕ} → block ≡ 2 * (k - 1) → Puts (ascii "(= (bvurem ") d a
      → Puts (two_atoms (Variable block) (Constant threads)) a b → Puts (ascii " ") b e → Puts (term_text (constant t)) e f
      → Puts (ascii ")") f g → Puts (formula_text (equal (apply bvurem (block_of k) (constant threads)) (constant t))) d g
  unfolding formula_text term_text two_atoms
  own_spelt k threads t is word both blank thread close = rw (← is) (puts_then word (puts_then both (puts_then blank (puts_then thread close))))

-- A 3 or an 8: what its first part is put as, and the second.
pub or_spelt : (case : Case) (k : ℕ) (f : Formula) {d a b e : Writer} → Puts (ascii "(or " ++ (formula_text (not_run case k) ++ ascii " ")) d a
    → Puts (formula_text f) a b → Puts (ascii ")") b e → Puts (formula_text (join disjunction (not_run case k) f)) d e
unfolding formula_text
or_spelt case k f unrun run close = puts_as (words (formula_text (not_run case k)) (formula_text f)) (puts_then unrun (puts_then run close))
  where
    words : (A B : List ℕ) → (ascii "(or " ++ (A ++ ascii " ")) ++ (B ++ ascii ")") ≡ ascii "(or " ++ (A ++ (ascii " " ++ (B ++ ascii ")")))
    words A B = simp append_assoc

pub together_spelt : (k j : ℕ) {block before : ℕ} → block ≡ 2 * (k - 1) → before ≡ 2 * (j - 1) → {d a : Writer}
    → Puts (formula_text (equal (variable block) (variable before))) d a → Puts (formula_text (equal (block_of k) (block_of j))) d a
together_spelt k j is was put = rw (is, was) at put

pub at_most_spelt : (x y : Atom) {d a b : Writer} → Puts (ascii "(bvule ") d a → Puts (two_atoms x y) a b
    → Puts (formula_text (test bvule (atom_term x) (atom_term y))) d b
unfolding formula_text two_atoms
at_most_spelt x y word both = puts_then word both
