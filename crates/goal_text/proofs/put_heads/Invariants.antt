-- `put_heads` goes by row. Assumes nothing.
use Rattle.goal_text.proofs.Heads.{Heading}
use Rattle.goal_text.proofs.put_heads.Given as goal

abbrev pub invariant-loop-j : goal.invariant-loop-j
invariant-loop-j l = Heading l.tabled.case.bytes.now l.initial.w l.w l.j
