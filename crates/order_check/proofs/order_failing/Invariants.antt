-- `order_check::order_failing` meets its contract. Assumes nothing.
use Rattle.order_check.proofs.ThreadOrder.{AllOrder}
use Rattle.order_check.proofs.order_failing.Given as goal

abbrev pub invariant-loop-t : goal.invariant-loop-t
invariant-loop-t l = AllOrder l.case.bytes.now l.assignment l.t-end l.next l.t
