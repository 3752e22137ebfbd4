-- `schedule::write_lengths` meets its contract. Assumes nothing.
use Rattle.schedule.proofs.Counts.{Lengths}
use Rattle.schedule.proofs.write_lengths.Given as goal

abbrev pub invariant-loop-i : goal.invariant-loop-i
invariant-loop-i l = Lengths l.case.bytes.now l.counts l.initial.schedule l.schedule l.i l.t
