-- `schedule_check::sums_of` meets its contract. The invariant: the sums so far and the lengths that are left. Assumes nothing.
use Rattle.schedule_check.proofs.Sums.{Adding}
use Rattle.schedule_check.proofs.sums_of.Given as goal

abbrev pub invariant-loop-i : goal.invariant-loop-i
invariant-loop-i l = Adding l.case.bytes.now l.lengths l.i l.sums
