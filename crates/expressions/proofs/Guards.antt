-- Guards. Assumes nothing. Met again in `put_guard`.
use mathlib.Core.Path.{◌≡◌}
use Prim.Native.Nat.{ℕ, ◌<◌}
use native.Mathlib.Omega.{arith}
use borrow.Author.Tests.{lt-ltb}
use Rattle.model.specs.CaseFile.{Line}
use Rattle.smt.specs.Term.{Term}
use Rattle.smt.specs.Spelling.{ascii, formula_text}
use Rattle.script.specs.Assertions.{is_zero, local_with, guard_true}
use Rattle.spell.specs.declared.Writer.{Writer}
use Rattle.spell.specs.Spelt.{Puts}
use Rattle.spell.proofs.Spelling.{puts_then}

-- The guard of a line says that its local is not zero.
module _ (l : Line) (p : ℕ) {guard : ℕ} {x : Term} {d a : Writer} (is : x ≡ local_with p) (e : l.guard ≡ guard) where
  pub guard_not_zero : {b f : Writer} → guard < 17
      → Puts (ascii "(not ") d a → Puts (formula_text (is_zero x)) a b → Puts (ascii ")") b f
      → Puts (formula_text (guard_true l p)) d f
  unfolding guard_true formula_text
  guard_not_zero h word inner close = rw (lt-ltb l.guard 17 (omega (arith, e, h)), ← is) (puts_then word (puts_then inner close))
