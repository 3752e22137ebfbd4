-- `put_assertions` puts the rows one after the other. Assumes nothing.
use Rattle.smt_text.proofs.Assertions.{Asserting}
use Rattle.smt_text.proofs.put_assertions.Given as goal

abbrev pub invariant-loop-j : goal.invariant-loop-j
invariant-loop-j l = Asserting l.case.bytes.now l.initial.w l.w l.j
