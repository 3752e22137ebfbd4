-- `put_copies` puts one copy after the other, from the last one back. Assumes nothing.
use Rattle.walk_text.proofs.CopyHeads.{Walking}
use Rattle.walk_text.proofs.put_copies.Given as goal

abbrev pub invariant-loop-many : goal.invariant-loop-many
invariant-loop-many l = Walking l.frame l.previous l.i l.g l.last l.initial.w l.w l.p l.many
