-- What a line meets that was not run. Assumes nothing. Met again where 5s are put.
use Prim.Native.Nat.{ℕ}
use Rattle.model.specs.CaseFile.{Case}
use Rattle.smt.specs.Term.{disjunction, Formula, join}
use Rattle.smt.specs.Spelling.{ascii, formula_text}
use Rattle.script.specs.Assertions.{not_run}
use Rattle.spell.specs.declared.Writer.{Writer}
use Rattle.spell.specs.Spelt.{Puts}
use Rattle.spell.proofs.Spelling.{puts_then}

-- An or, of which a line meets the first part where it was not run.
pub or_not_run_spelt : (case : Case) (k : ℕ) (f : Formula) {d a b e x y : Writer} → Puts (ascii "(or ") d a
    → Puts (formula_text (not_run case k)) a b → Puts (ascii " ") b e → Puts (formula_text f) e x → Puts (ascii ")") x y
    → Puts (formula_text (join disjunction (not_run case k) f)) d y
unfolding formula_text
or_not_run_spelt case k f word unrun blank run close = puts_then word (puts_then unrun (puts_then blank (puts_then run close)))
