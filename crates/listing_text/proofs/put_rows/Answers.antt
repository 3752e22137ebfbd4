-- `put_rows` puts the rows one after the other. Assumes nothing.
use Rattle.listing_text.proofs.Rows.{rowing_start, rowing_more, rowing_end}
use Rattle.listing_text.proofs.put_rows.Goals as goal

pub loop-i-init : goal.loop-i-init
loop-i-init c = rowing_start _ _ _ _

pub loop-i-preserved : goal.loop-i-preserved
loop-i-preserved c = rowing_more c.loop-i.invariant c.loop-i-test.true c.put_row-at.ensures

pub shape_of-text : goal.shape_of-text
shape_of-text c = c.loop-i.invariant.writes.same

pub returns : goal.returns
returns c = rowing_end c.loop-i.invariant c.loop-i-test.false
