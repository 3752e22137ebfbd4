-- `put_reads` is by whether there is a guard. Assumes nothing.
use mathlib.Core.Path.{refl}
use Rattle.line_text.proofs.Lines.{reads_plain, reads_guarded}
use Rattle.line_text.proofs.put_reads.Goals as goal

pub returns-then-guard-eq0 : goal.returns-then-guard-eq0
returns-then-guard-eq0 c = λ case f. reads_plain case _ _ _ _ _ f.shape.globals (c.target_name-name.ensures c.args.k) c.if-guard-eq0.true (c.put_name.ensures case f)

pub returns : goal.returns
returns c = λ case f. reads_guarded case _ _ _ _ _ f.shape.globals (c.target_name-name.ensures c.args.k) c.if-guard-eq0.false c.put.ensures (c.put_guard.ensures _ refl) c.put-2.ensures (c.put_name-2.ensures case f) c.put-3.ensures
