-- `part_count` counts the parts, a record at a time. Assumes nothing.
use Rattle.goal_text.proofs.Parts.{Numbering}
use Rattle.goal_text.proofs.part_count.Given as goal

abbrev pub invariant-loop-k : goal.invariant-loop-k
invariant-loop-k l = Numbering l.case.bytes.now l.k l.n
