-- `run::blocks_at` meets its contract. Assumes nothing.
use Rattle.run.proofs.Runs.{playing_on, playing_end}
use Rattle.run.proofs.blocks_at.Goals as goal

pub loop-i-preserved : goal.loop-i-preserved
loop-i-preserved c = playing_on _ _ _ _ _ _ _ _ _ _ c.loop-i.invariant c.args.case.now.accepted _ _ _ c.loop-i-test.true c.block_at-last.ensures

pub returns : goal.returns
returns c = playing_end _ _ _ _ _ _ _ _ _ _ c.loop-i.invariant c.loop-i-test.false
