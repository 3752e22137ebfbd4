-- `constraint_count` counts the rows, a record at a time, and takes the first lines' 8s away. Assumes nothing.
use Rattle.encoder.proofs.Counts.{Counting}
use Rattle.encoder.proofs.constraint_count.Given as goal

abbrev pub invariant-loop-k : goal.invariant-loop-k
invariant-loop-k l = Counting l.case.bytes.now l.k l.n
