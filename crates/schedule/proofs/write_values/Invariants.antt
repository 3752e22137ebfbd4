-- `schedule::write_values` meets its contract. Assumes nothing.
use lib.ListN.{length}
use Rattle.laws.specs.Accepted.{lines_from}
use Rattle.schedule.proofs.Walks.{Walk}
use Rattle.schedule.proofs.write_values.Given as goal

abbrev pub invariant-loop-k : goal.invariant-loop-k
invariant-loop-k l = Walk l.case.bytes.now l.assignment l.t l.initial.schedule l.start l.initial.counts l.schedule l.at l.locals l.counts l.k

abbrev pub decreases-loop-k : goal.decreases-loop-k
decreases-loop-k l = length (lines_from l.case.bytes.now l.t l.k)
