-- `put_blocks` takes the thread's blocks one after the other. Assumes nothing.
use borrow.Author.Rules.{rules}
use native.Mathlib.Omega.{arith}
use Rattle.reads_text.proofs.Blocks.{blocks_start, blocks_more, blocks_ended, blocks_spent}
use Rattle.reads_text.proofs.put_blocks.Goals as goal

pub loop-many-init : goal.loop-many-init
loop-many-init c = blocks_start c.args.w.now.near (search rules)

pub returns-then-last-i : goal.returns-then-last-i
returns-then-last-i c = λ case f. blocks_ended c.loop-many.invariant case f c.if-last-i.true

pub overflow_add-i : goal.overflow_add-i
overflow_add-i c = omega (arith, c.loop-many.invariant.near, c.if-last-i.false)

pub loop-many-preserved : goal.loop-many-preserved
loop-many-preserved c = blocks_more c.loop-many.invariant c.loop-many-test.true c.if-last-i.false (search rules) (search rules) c.put_block.ensures

pub returns : goal.returns
returns c = λ case f. blocks_spent c.loop-many.invariant case f c.loop-many-test.false
