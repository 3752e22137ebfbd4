-- `value_check::values_failing` meets its contract. Assumes nothing.
use Rattle.std.proofs.lemmas.Result.{err_from_is_err_and}
use Rattle.value_check.proofs.AllWalk.{all_end, all_next, all_found, all_more}
use Rattle.value_check.proofs.values_failing.Goals as goal

pub thread_values-requires : goal.thread_values-requires
thread_values-requires c = all_next c.args.case.now.accepted c.requires _ c.threads-t-end.ensures c.loop-t.invariant c.loop-t-test.true

pub returns-in_err-walk : goal.returns-in_err-walk
returns-in_err-walk c =
    let p = err_from_is_err_and c.from_residual.result c.from_residual.ensures.1 in
    rw (p.1, p.2) (all_found c.args.case.now.accepted c.requires _ c.threads-t-end.ensures c.loop-t.invariant c.loop-t-test.true c.in_err-walk.ensures)

pub loop-t-preserved : goal.loop-t-preserved
loop-t-preserved c = all_more c.args.case.now.accepted c.requires _ c.threads-t-end.ensures c.loop-t.invariant c.loop-t-test.true c.in_ok-walk.ensures

pub returns : goal.returns
returns c = all_end c.args.case.now.accepted c.requires _ c.threads-t-end.ensures c.loop-t.invariant c.loop-t-test.false
