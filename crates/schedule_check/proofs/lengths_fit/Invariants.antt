-- `schedule_check::lengths_fit` meets its contract. The invariant: the threads that are left decide. Assumes nothing.
use Rattle.schedule_check.proofs.Sums.{Comparing}
use Rattle.schedule_check.proofs.lengths_fit.Given as goal

abbrev pub invariant-loop-t : goal.invariant-loop-t
invariant-loop-t l = Comparing l.case.bytes.now l.lengths l.threads l.t
