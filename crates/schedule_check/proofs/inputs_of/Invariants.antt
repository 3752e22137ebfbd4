-- `schedule_check::inputs_of` meets its contract. The invariant: the threads that are left decide. Assumes nothing.
use Rattle.schedule_check.specs.InputValues.{inputs}
use Rattle.schedule_check.proofs.InputLoops.{Spreading}
use Rattle.schedule_check.proofs.inputs_of.Given as goal

abbrev pub invariant-loop-t : goal.invariant-loop-t
invariant-loop-t l = Spreading l.case.bytes.now l.schedule (inputs l.initial.given l.lengths) l.t (inputs l.given l.used) l.lines
