use native.Mathlib.Omega.{arith}
use Rattle.links.proofs.ChainWalks.{walking_starts, few_passed, walk_ends, came_twice, walk_on}
use Rattle.links.proofs.follow.Goals as goal

pub loop-k-init : goal.loop-k-init
loop-k-init c = search walking_starts

pub returns-then-reached-k-ne0 : goal.returns-then-reached-k-ne0
returns-then-reached-k-ne0 c = came_twice c.loop-k.invariant c.loop-k-test.true c.if-reached-k-ne0.true

pub overflow_add-n : goal.overflow_add-n
overflow_add-n c = omega (arith, few_passed c.loop-k.invariant)

pub loop-k-smaller : goal.loop-k-smaller
loop-k-smaller c = omega (arith, few_passed c.loop-k.invariant)

pub loop-k-preserved : goal.loop-k-preserved
loop-k-preserved c = rw c.next_of-k.ensures (walk_on c.loop-k.invariant c.loop-k-test.true c.if-reached-k-ne0.false)

pub returns : goal.returns
returns c = walk_ends c.loop-k.invariant c.loop-k-test.false
