-- `order_check::order_failing` meets its contract. Assumes nothing.
use Rattle.std.proofs.lemmas.Result.{err_from_is_err_and}
use Rattle.order_check.proofs.ThreadOrder.{all_end, all_ready, all_found, all_more}
use Rattle.order_check.proofs.order_failing.Goals as goal

pub thread_order-requires : goal.thread_order-requires
thread_order-requires c = all_ready _ _ _ c.threads-t-end.ensures c.loop-t.invariant c.loop-t-test.true c.args.case.now.accepted

pub returns-in_err-next : goal.returns-in_err-next
returns-in_err-next c =
    let p = err_from_is_err_and c.from_residual.result c.from_residual.ensures.1 in
    rw (p.1, p.2) (all_found _ _ _ c.threads-t-end.ensures c.loop-t.invariant c.loop-t-test.true c.in_err-next.ensures)

pub loop-t-preserved : goal.loop-t-preserved
loop-t-preserved c = all_more _ _ _ c.threads-t-end.ensures c.loop-t.invariant c.loop-t-test.true c.in_ok-next.ensures

pub returns : goal.returns
returns c = all_end _ _ _ c.threads-t-end.ensures c.loop-t.invariant c.loop-t-test.false
