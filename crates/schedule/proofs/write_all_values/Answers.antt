-- `schedule::write_all_values` meets its contract. Assumes nothing.
use native.Mathlib.Omega.{arith}
use Rattle.schedule.proofs.Walks.{threads_next, threads_more, threads_end}
use Rattle.schedule.proofs.write_all_values.Goals as goal

pub write_values-at-requires : goal.write_values-at-requires
write_values-at-requires c = threads_next c.loop-t.invariant (omega (arith, c.loop-t-test.true, c.threads-many.ensures)) c.args.case.now.accepted c.requires

pub loop-t-preserved : goal.loop-t-preserved
loop-t-preserved c = threads_more c.loop-t.invariant (omega (arith, c.loop-t-test.true, c.threads-many.ensures)) c.write_values-at.ensures

pub returns : goal.returns
returns c = threads_end c.loop-t.invariant (omega (arith, c.loop-t-test.false, c.threads-many.ensures))
