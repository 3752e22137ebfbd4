-- `run::put_unrun` meets its contract. The invariant: the lines that are left decide. Assumes nothing.
use lib.ListN.{length}
use Rattle.laws.specs.Accepted.{lines_from}
use Rattle.run.proofs.Unrun.{Leaving}
use Rattle.run.proofs.put_unrun.Given as goal

abbrev pub invariant-loop-at : goal.invariant-loop-at
invariant-loop-at l = Leaving l.case.bytes.now l.k l.initial.trace l.at l.trace

abbrev pub decreases-loop-at : goal.decreases-loop-at
decreases-loop-at l = length (lines_from l.case.bytes.now 0 l.at)
