-- `value_check::values_failing` meets its contract. Assumes nothing.
use Rattle.value_check.proofs.AllWalk.{AllWalk}
use Rattle.value_check.proofs.values_failing.Given as goal

abbrev pub invariant-loop-t : goal.invariant-loop-t
invariant-loop-t l = AllWalk l.case.bytes.now l.assignment l.initial.walk.next l.t-end l.latest l.previous l.walk l.t
