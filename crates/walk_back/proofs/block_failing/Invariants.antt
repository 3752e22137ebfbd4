-- `walk_back::block_failing` meets its contract. Assumes nothing.
use Rattle.walk_back.proofs.Blocks.{BlockWalk}
use Rattle.walk_back.proofs.block_failing.Given as goal

abbrev pub invariant-loop-g : goal.invariant-loop-g
invariant-loop-g l = BlockWalk l.case.bytes.now l.assignment l.span l.g-end l.at l.g
