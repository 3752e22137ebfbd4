-- Atoms and equations. Assumes nothing. Met again in `put_two` and `put_equal`.
use Rattle.smt.specs.Spelling.{ascii, term_text, formula_text}
use Rattle.script.specs.Assertions.{equal}
use Rattle.spell.specs.declared.Writer.{Writer}
use Rattle.spell.specs.Spelt.{Puts}
use Rattle.spell.specs.Atoms.{atom_term, two_atoms}
use Rattle.spell.specs.declared.Atom.{Atom}
use Rattle.spell.proofs.Spelling.{puts_then}

module _ {d a b e f : Writer} (x y : Atom) where
  pub two_spelt : Puts (term_text (atom_term x)) d a → Puts (ascii " ") a b → Puts (term_text (atom_term y)) b e → Puts (ascii ")") e f
      → Puts (two_atoms x y) d f
  unfolding two_atoms
  two_spelt first blank second close = puts_then first (puts_then blank (puts_then second close))

module _ {d a b : Writer} (x y : Atom) where
  pub equal_spelt : Puts (ascii "(= ") d a → Puts (two_atoms x y) a b → Puts (formula_text (equal (atom_term x) (atom_term y))) d b
  unfolding formula_text two_atoms
  equal_spelt word both = puts_then word both
