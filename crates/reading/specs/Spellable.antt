-- The scripts that the spelling can hold: each variable is declared and has a number of at most five digits, and each constant has
-- 16 bits.
-- Assumes nothing.
use Rattle.std.specs.Prelude.{ℕ, ◌≤◌, ◌<◌, List, [], ◌∷◌}
use Rattle.smt.specs.Term.{bit_vectors, Term, variable, constant, choice, apply, Formula, truth, test, negation, join, select}
use Rattle.smt.specs.Script.{Script}

-- Over so many declared variables.
abbrev mutual
  pub TermSpellable : ℕ → Term → Type 0
  TermSpellable declared (variable k) = k < declared
  TermSpellable declared (constant n) = n < bit_vectors
  TermSpellable declared (choice f x y) = FormulaSpellable declared f × TermSpellable declared x × TermSpellable declared y
  TermSpellable declared (apply o x y) = TermSpellable declared x × TermSpellable declared y

  pub FormulaSpellable : ℕ → Formula → Type 0
  FormulaSpellable declared (truth p) = Unit
  FormulaSpellable declared (test t x y) = TermSpellable declared x × TermSpellable declared y
  FormulaSpellable declared (negation f) = FormulaSpellable declared f
  FormulaSpellable declared (join c f g) = FormulaSpellable declared f × FormulaSpellable declared g
  FormulaSpellable declared (select f g h) = FormulaSpellable declared f × FormulaSpellable declared g × FormulaSpellable declared h

abbrev pub AllSpellable : ℕ → List Formula → Type 0
AllSpellable declared [] = Unit
AllSpellable declared (f ∷ fs) = FormulaSpellable declared f × AllSpellable declared fs

pub record ScriptSpellable (script : Script) : Type 0 where
  pub declared : script.variables ≤ 65536
  pub assertions : AllSpellable script.variables script.assertions
