-- `run::first_stray_left` meets its contract. The invariants: the threads that are left decide; no thread before this one strays.
-- Assumes nothing.
use Rattle.run.proofs.Unrun.{LeavingAll}
use Rattle.run.proofs.Looks.{LookingOn}
use Rattle.run.proofs.first_stray_left.Given as goal

abbrev pub invariant-loop-thread : goal.invariant-loop-thread
invariant-loop-thread l = LeavingAll l.case.bytes.now l.fn.threads l.initial.trace l.thread-index l.trace

abbrev pub invariant-loop-thread-2 : goal.invariant-loop-thread-2
invariant-loop-thread-2 l = LookingOn l.case.bytes.now l.given l.fn.threads l.thread-index
