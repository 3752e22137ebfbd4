-- `walk_back::blocks_failing` meets its contract. Assumes nothing.
use Rattle.std.proofs.lemmas.Result.{err_from_is_err_and}
use Rattle.walk_back.proofs.Blocks.{blocks_end, blocks_ready, blocks_found, blocks_more}
use Rattle.walk_back.proofs.blocks_failing.Goals as goal

pub block_failing-requires : goal.block_failing-requires
block_failing-requires c =
    blocks_ready c.requires _ c.switches-block-end.ensures c.loop-block.invariant c.loop-block-test.true c.start_of_block-after.ensures

pub returns-in_err-next : goal.returns-in_err-next
returns-in_err-next c =
    let p = err_from_is_err_and c.from_residual.result c.from_residual.ensures.1 in
    rw (p.1, p.2) (blocks_found c.requires _ c.switches-block-end.ensures c.loop-block.invariant c.loop-block-test.true c.in_err-next.ensures)

pub loop-block-preserved : goal.loop-block-preserved
loop-block-preserved c =
    blocks_more c.requires _ c.switches-block-end.ensures c.loop-block.invariant c.loop-block-test.true c.start_of_block-after.ensures c.in_ok-next.ensures

pub returns : goal.returns
returns c = blocks_end c.requires _ c.switches-block-end.ensures c.loop-block.invariant c.loop-block-test.false
