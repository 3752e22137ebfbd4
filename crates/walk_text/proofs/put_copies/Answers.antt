-- `put_copies` puts one copy after the other, from the last one back. Assumes nothing.
use Rattle.walk_text.proofs.CopyHeads.{walking_start, walking_more, walking_first, walking_spent}
use Rattle.walk_text.proofs.put_copies.Goals as goal

pub loop-many-init : goal.loop-many-init
loop-many-init c = walking_start c.args.w.now.near

pub returns-then-p-eq0 : goal.returns-then-p-eq0
returns-then-p-eq0 c = walking_first c.loop-many.invariant c.if-p-eq0.true

pub loop-many-preserved : goal.loop-many-preserved
loop-many-preserved c = walking_more c.loop-many.invariant c.loop-many-test.true c.if-p-eq0.false c.put_copy.ensures c.at-p.ensures

pub returns : goal.returns
returns c = walking_spent c.loop-many.invariant c.loop-many-test.false
