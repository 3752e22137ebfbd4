-- `run::stray_left` meets its contract. The invariant: the lines that are left decide. Assumes nothing.
use lib.ListN.{length}
use Rattle.laws.specs.Accepted.{lines_from}
use Rattle.run.proofs.Looks.{Looking}
use Rattle.run.proofs.stray_left.Given as goal

abbrev pub invariant-loop-at : goal.invariant-loop-at
invariant-loop-at l = Looking l.case.bytes.now l.given l.k l.at

abbrev pub decreases-loop-at : goal.decreases-loop-at
decreases-loop-at l = length (lines_from l.case.bytes.now 0 l.at)
