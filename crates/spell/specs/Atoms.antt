-- Atoms as terms, and bytes that no formula has by itself: what some functions write of one.
-- Assumes nothing.
use Rattle.std.specs.Prelude.{ℕ, ◌/◌, ◌%◌, cond, List, [], ◌∷◌, ◌++◌, ltb, replicate}
use Rattle.model.specs.Listing.{digit}
use Rattle.smt.specs.Term.{Term, variable, constant}
use Rattle.smt.specs.Spelling.{ascii, term_text}
use Rattle.spell.specs.declared.Atom.{Atom}
use Rattle.spell.specs.declared.Atom.TheVariants.{Variable, Constant}

abbrev pub atom_term : Atom → Term
atom_term (Variable k) = variable k
atom_term (Constant n) = constant n

-- What follows the word of a test or an operation of two atoms.
unfoldable pub two_atoms : Atom → Atom → List ℕ
two_atoms x y = term_text (atom_term x) ++ (ascii " " ++ (term_text (atom_term y) ++ ascii ")"))

-- So many closing parentheses.
unfoldable pub closing : ℕ → List ℕ
closing many = replicate many 41

-- A variable of four digits or five, from its hundreds and the two digits after them.
unfoldable pub long_variable : ℕ → ℕ → ℕ → List ℕ
long_variable hundreds third last =
    cond (ltb (hundreds / 10) 10) (118 ∷ (digit (hundreds / 10) ∷ (digit (hundreds % 10) ∷ (third ∷ (last ∷ [])))))
    (118 ∷ (digit (hundreds / 10 / 10 % 10) ∷ (digit (hundreds / 10 % 10) ∷ (digit (hundreds % 10) ∷ (third ∷ (last ∷ []))))))
