-- `write_blocks` writes the 6s, a block at a time. Assumes nothing.
use borrow.Author.Rules.{rules}
use Rattle.encoder.proofs.Series.{going_start, going_fits, going_more, going_end}
use Rattle.encoder.proofs.Parts.{blocks_all}
use Rattle.encoder.proofs.write_blocks.Goals as goal

pub loop-i-init : goal.loop-i-init
loop-i-init c = going_start (blocks_all _ _ c.switches-last.ensures)

pub write_items-at-requires : goal.write_items-at-requires
write_items-at-requires c = let room = going_fits c.loop-i.invariant c.loop-i-test.true c.requires.room in search rules

pub loop-i-preserved : goal.loop-i-preserved
loop-i-preserved c = going_more c.loop-i.invariant c.loop-i-test.true c.write_items-at.ensures

pub shape_of-table : goal.shape_of-table
shape_of-table c = c.loop-i.invariant.writes.same

pub returns : goal.returns
returns c = going_end c.loop-i.invariant c.loop-i-test.false
