-- `value_check::thread_values` meets its contract. Assumes nothing.
use lib.ListN.{length}
use Rattle.laws.specs.Accepted.{lines_from}
use Rattle.value_check.proofs.ThreadWalk.{ThreadWalk}
use Rattle.value_check.proofs.thread_values.Given as goal

abbrev pub invariant-loop-k : goal.invariant-loop-k
invariant-loop-k l =
    ThreadWalk l.case.bytes.now l.assignment l.t l.initial.at l.initial.broken l.held l.previous l.locals l.items l.block l.broken l.at l.k

abbrev pub decreases-loop-k : goal.decreases-loop-k
decreases-loop-k l =
    length (lines_from l.case.bytes.now l.t l.k)
