-- `invisible_firsts` counts them, a thread at a time. Assumes nothing.
use Rattle.encoder.proofs.Counts.{firsts_start, firsts_more, firsts_end}
use Rattle.encoder.proofs.invisible_firsts.Goals as goal

pub loop-counted-init : goal.loop-counted-init
loop-counted-init c = firsts_start _ _ c.threads-threads.ensures

pub loop-counted-preserved : goal.loop-counted-preserved
loop-counted-preserved c = firsts_more _ _ c.threads-threads.ensures c.loop-counted.invariant c.loop-counted-test.true _ c.invisible_first.ensures c.from-n.ensures

pub returns : goal.returns
returns c = firsts_end _ _ c.threads-threads.ensures c.loop-counted.invariant c.loop-counted-test.false
