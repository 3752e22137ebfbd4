-- `put_line` puts its numbers one after the other, the last with a line feed. Assumes nothing.
use borrow.Author.Rules.{rules}
use mathlib.Core.Path.{◌∙◌}
use Rattle.listing_text.proofs.Rows.{lining_start, lining_more, lining_end}
use Rattle.listing_text.proofs.put_line.Goals as goal

pub loop-j-init : goal.loop-j-init
loop-j-init c = lining_start _ _ _ _ (search rules)

pub loop-j-preserved : goal.loop-j-preserved
loop-j-preserved c = lining_more c.loop-j.invariant c.loop-j-test.true c.put_number-at.ensures

pub shape_of-text : goal.shape_of-text
shape_of-text c = c.put_number.auto.text ∙ c.loop-j.invariant.writes.same

pub returns : goal.returns
returns c = lining_end c.loop-j.invariant c.loop-j-test.false c.put_number.ensures
