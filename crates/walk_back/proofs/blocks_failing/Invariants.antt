-- `walk_back::blocks_failing` meets its contract. Assumes nothing.
use Rattle.walk_back.proofs.Blocks.{BlocksWalk}
use Rattle.walk_back.proofs.blocks_failing.Given as goal

abbrev pub invariant-loop-block : goal.invariant-loop-block
invariant-loop-block l = BlocksWalk l.case.bytes.now l.assignment l.start l.block-end l.before l.next l.block
