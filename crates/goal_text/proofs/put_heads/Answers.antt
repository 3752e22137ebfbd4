-- `put_heads` goes by row. Assumes nothing.
use Rattle.goal_text.proofs.Heads.{heading_start, heading_more, heading_end}
use Rattle.goal_text.proofs.put_heads.Goals as goal

pub loop-j-init : goal.loop-j-init
loop-j-init c = heading_start c.args.w.now.near

pub loop-j-preserved : goal.loop-j-preserved
loop-j-preserved c = heading_more c.args.tabled.now.handed c.loop-j.invariant c.loop-j-test.true c.put_head.ensures

pub returns : goal.returns
returns c = heading_end c.args.tabled.now.handed c.loop-j.invariant c.loop-j-test.false
