-- `schedule_check::lengths_fit` meets its contract. The invariant: the threads that are left decide. Assumes nothing.
use native.Mathlib.Omega.{arith}
use Rattle.schedule_check.proofs.Sums.{comparing_start, comparing_more, comparing_fails, comparing_end}
use Rattle.schedule_check.proofs.lengths_fit.Goals as goal

pub loop-t-init : goal.loop-t-init
loop-t-init c = comparing_start _ _ _ c.threads-threads.ensures

pub returns-then-lines-t : goal.returns-then-lines-t
returns-then-lines-t c = comparing_fails _ _ _ _ c.loop-t.invariant c.loop-t-test.true _ _ (c.sums_of-sums.ensures c.loop-t.t (omega (arith, c.threads-threads.ensures, c.args.case.now.accepted.few_threads))) (c.requires.counted c.loop-t.t (omega (arith, c.threads-threads.ensures))) c.if-lines-t.true

pub loop-t-preserved : goal.loop-t-preserved
loop-t-preserved c = comparing_more _ _ _ _ c.loop-t.invariant c.loop-t-test.true _ _ (c.sums_of-sums.ensures c.loop-t.t (omega (arith, c.threads-threads.ensures, c.args.case.now.accepted.few_threads))) (c.requires.counted c.loop-t.t (omega (arith, c.threads-threads.ensures))) c.if-lines-t.false

pub returns : goal.returns
returns c = comparing_end _ _ _ _ c.loop-t.invariant c.loop-t-test.false
