-- `walk_back::block_failing` meets its contract. Assumes nothing.
use Rattle.walk_back.proofs.Blocks.{block_end, block_found, block_more}
use Rattle.walk_back.proofs.block_failing.Goals as goal

pub returns-then-span-g : goal.returns-then-span-g
returns-then-span-g c =
    block_found c.args.case.now.accepted c.requires c.items-g-end.ensures.is c.loop-g.invariant c.loop-g-test.true c.threads.ensures
    c.copy_of-last.ensures c.decided_value-value.ensures c.if-span-g.true

pub loop-g-preserved : goal.loop-g-preserved
loop-g-preserved c =
    block_more c.args.case.now.accepted c.requires c.items-g-end.ensures.is c.loop-g.invariant c.loop-g-test.true c.threads.ensures
    c.copy_of-last.ensures c.decided_value-value.ensures c.if-span-g.false

pub returns : goal.returns
returns c = block_end c.args.case.now.accepted c.requires c.items-g-end.ensures.is c.loop-g.invariant c.loop-g-test.false
