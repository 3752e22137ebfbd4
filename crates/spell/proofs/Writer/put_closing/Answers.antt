-- `put_closing` puts one after the other. Assumes nothing.
use borrow.Author.Rules.{rules}
use Rattle.spell.proofs.Spelling.{left_start}
use Rattle.spell.proofs.Closing.{closing_all, closing_more, closing_end}
use Rattle.spell.proofs.Writer.put_closing.Goals as goal

pub loop-init : goal.loop-init
loop-init c = left_start (search rules) (closing_all _)

pub loop-preserved : goal.loop-preserved
loop-preserved c = closing_more c.loop.invariant c.loop-test.true c.put.ensures

pub returns : goal.returns
returns c = closing_end c.loop.invariant c.loop-test.false
