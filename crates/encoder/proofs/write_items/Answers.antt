-- `write_items` writes the 6s of a block, an item at a time. Assumes nothing.
use borrow.Author.Rules.{rules}
use native.Mathlib.Omega.{arith}
use Rattle.model.specs.Table.{numbers_of}
use Rattle.encoder.proofs.Series.{going_start, going_fits, going_more, going_end}
use Rattle.encoder.proofs.Parts.{items_all, block_thread, item_put}
use Rattle.encoder.proofs.write_items.Goals as goal

pub loop-g-init : goal.loop-g-init
loop-g-init c = going_start (items_all _ _ _ c.items-items.ensures.is)

pub offset_bounds-latest-t : goal.offset_bounds-latest-t
offset_bounds-latest-t c = omega (arith, block_thread _ c.args.case.now.accepted c.args.i _ c.threads.ensures)

pub put_row-requires : goal.put_row-requires
unfolding numbers_of
put_row-requires c = going_fits c.loop-g.invariant c.loop-g-test.true c.requires.room

pub overflow_add-at : goal.overflow_add-at
unfolding numbers_of
overflow_add-at c = let fits = going_fits c.loop-g.invariant c.loop-g-test.true c.requires.room in omega arith

pub loop-g-preserved : goal.loop-g-preserved
loop-g-preserved c =
    let row = item_put _ c.args.case.now.accepted _ c.requires.held _ _ _ _ _ _ _ _ (search rules) c.threads.ensures c.copy_of-copy.ensures c.item_row-w.ensures c.put_row.ensures in
    going_more c.loop-g.invariant c.loop-g-test.true row

pub shape_of-table : goal.shape_of-table
shape_of-table c = c.loop-g.invariant.writes.same

pub returns : goal.returns
returns c = going_end c.loop-g.invariant c.loop-g-test.false
