-- `schedule::write_all_values` meets its contract. Assumes nothing.
use Rattle.schedule.proofs.Walks.{Threads}
use Rattle.schedule.proofs.write_all_values.Given as goal

abbrev pub invariant-loop-t : goal.invariant-loop-t
invariant-loop-t l = Threads l.case.bytes.now l.assignment l.initial.schedule l.start l.schedule l.at l.counts l.t
