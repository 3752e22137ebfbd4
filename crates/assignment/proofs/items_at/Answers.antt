-- `assignment::items_at` meets its contract. Assumes nothing.
use Rattle.assignment.proofs.BlockValues.{filled_all, filling_start, filling_more, filling_end}
use borrow.Author.Rules.{rules}
use Rattle.assignment.proofs.items_at.Goals as goal

pub returns-then-place-assignment : goal.returns-then-place-assignment
returns-then-place-assignment c = filled_all _ _ _ _ c.most_items_at.ensures (search rules)

pub loop-g-init : goal.loop-g-init
loop-g-init c = filling_start

pub loop-g-preserved : goal.loop-g-preserved
loop-g-preserved c = filling_more c.loop-g.invariant _ c.loop-g-test.true (search rules) c.at.ensures

pub returns : goal.returns
returns c = filling_end c.loop-g.invariant c.loop-g-test.false
