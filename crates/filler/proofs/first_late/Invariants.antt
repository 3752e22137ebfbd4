-- `filler::first_late` meets its contract. The invariant: no line is late in the threads before this one. Assumes nothing.
use Rattle.filler.proofs.Lateness.{LookingOn}
use Rattle.filler.proofs.first_late.Given as goal

abbrev pub invariant-loop-t : goal.invariant-loop-t
invariant-loop-t l = LookingOn l.case.bytes.now l.numbers l.t
