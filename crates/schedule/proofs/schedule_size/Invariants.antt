-- `schedule::schedule_size` meets its contract. Assumes nothing.
use Rattle.schedule.proofs.Sizes.{Sizing}
use Rattle.schedule.proofs.schedule_size.Given as goal

abbrev pub invariant-loop-k : goal.invariant-loop-k
invariant-loop-k l = Sizing l.case.bytes.now l.k l.n
