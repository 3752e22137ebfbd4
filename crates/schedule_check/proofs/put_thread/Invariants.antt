-- `schedule_check::put_thread` meets its contract. The invariant: the lines that are left decide. Assumes nothing.
use lib.ListN.{length}
use Rattle.laws.specs.Accepted.{lines_from}
use Rattle.schedule_check.specs.InputValues.{inputs}
use Rattle.schedule_check.proofs.InputLoops.{Putting}
use Rattle.schedule_check.proofs.put_thread.Given as goal

abbrev pub invariant-loop-k : goal.invariant-loop-k
invariant-loop-k l = Putting l.case.bytes.now l.schedule l.t (inputs l.initial.given l.start) l.k (inputs l.given l.used) l.lines

abbrev pub decreases-loop-k : goal.decreases-loop-k
decreases-loop-k l = length (lines_from l.case.bytes.now l.t l.k)
