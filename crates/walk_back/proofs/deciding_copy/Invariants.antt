-- `walk_back::deciding_copy` meets its contract. Assumes nothing.
use Rattle.walk_back.proofs.Deciding.{DecidingWalk}
use Rattle.walk_back.proofs.deciding_copy.Given as goal

abbrev pub invariant-chain : goal.invariant-chain
invariant-chain l = DecidingWalk l.previous l.assignment l.i l.last l.p l.left

abbrev pub decreases-chain : goal.decreases-chain
decreases-chain l = l.left
