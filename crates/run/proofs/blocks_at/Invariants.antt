-- The invariant: the blocks that are left decide (`Runs.antt`). Assumes nothing.
use Rattle.std.proofs.Common.{length, ◌-◌}
use Rattle.run.proofs.Runs.{Playing}
use Rattle.run.proofs.blocks_at.Given as goal

abbrev pub invariant-loop-i : goal.invariant-loop-i
invariant-loop-i l = Playing l.case.bytes.now l.given l.lengths l.initial.threads l.initial.last l.initial.trace l.i l.threads l.last l.trace

abbrev pub decreases-loop-i : goal.decreases-loop-i
decreases-loop-i l = length l.lengths - l.i
