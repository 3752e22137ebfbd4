-- `order_check::thread_order` meets its contract. Assumes nothing.
use lib.ListN.{length}
use Rattle.laws.specs.Accepted.{lines_from}
use Rattle.order_check.proofs.ThreadOrder.{ThreadOrder}
use Rattle.order_check.proofs.thread_order.Given as goal

abbrev pub invariant-loop-k : goal.invariant-loop-k
invariant-loop-k l = ThreadOrder l.case.bytes.now l.assignment l.t l.start l.at l.before l.k

abbrev pub decreases-loop-k : goal.decreases-loop-k
decreases-loop-k l = length (lines_from l.case.bytes.now l.t l.k)
