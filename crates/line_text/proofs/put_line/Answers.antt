-- `put_line` is by whether there is a guard. Assumes nothing.
use mathlib.Core.Path.{refl}
use Rattle.line_text.proofs.Lines.{line_plain, line_guarded}
use Rattle.line_text.proofs.put_line.Goals as goal

pub returns-then-l-eq0 : goal.returns-then-l-eq0
returns-then-l-eq0 c = λ case f. line_plain case _ _ _ _ _ _ c.if-l-eq0.true (c.put_in.ensures case f)

pub returns : goal.returns
returns c = λ case f. line_guarded case _ _ _ _ _ _ c.if-l-eq0.false c.put.ensures (c.put_guard.ensures _ refl) c.put-2.ensures (c.put_in-2.ensures case f) c.put-3.ensures (c.put_out.ensures case f) c.put-4.ensures
