-- `write_all_values` writes the 4s and 5s, a thread at a time. Assumes nothing.
use Rattle.encoder.proofs.Parts.{Taking}
use Rattle.encoder.proofs.write_all_values.Given as goal

abbrev pub invariant-loop-thread : goal.invariant-loop-thread
invariant-loop-thread l = Taking l.case.bytes.now l.threads l.latest l.thread l.initial.table l.start l.table l.at
