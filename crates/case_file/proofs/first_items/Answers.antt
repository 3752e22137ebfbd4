-- `case_file::first_items` meets its contract. The invariant: the items so far are those of the first g globals. Assumes nothing.
use Rattle.case_file.proofs.FirstItems.{items_none, items_more, items_all}
use borrow.Author.Rules.{rules}
use Rattle.case_file.proofs.first_items.Goals as goal

pub loop-g-init : goal.loop-g-init
loop-g-init c = items_none _ _

pub loop-g-preserved : goal.loop-g-preserved
loop-g-preserved c = items_more _ _ _ _ _ (search rules) c.loop-g-test.true c.loop-g.invariant c.initial_of.ensures

pub returns : goal.returns
returns c = items_all _ _ _ _ c.loop-g.invariant c.loop-g-test.false c.globals-globals.ensures
