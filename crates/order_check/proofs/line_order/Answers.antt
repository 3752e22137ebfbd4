-- `order_check::line_order` meets its contract. Assumes nothing.
use Rattle.std.proofs.Common.{ap, not}
use native.Mathlib.Omega.{arith}
use lib.Dec.{eqb}
use Rattle.laws.proofs.Sizes.{order_count_at_most}
use Rattle.case_file.proofs.LoopTests.{failed, passed}
use Rattle.order_check.proofs.LineOrder.{order_count_at_least, thread_fails, stay_fails, order_holds, follow_fails}
use Rattle.order_check.proofs.line_order.Goals as goal

pub returns-then-not-own_block : goal.returns-then-not-own_block
returns-then-not-own_block c = thread_fails _ _ _ c.args.link _ c.block_of-block.ensures c.args.at (failed c.own_block.ensures (ap not c.if-not-own_block.true))

pub returns-then-not-stayed : goal.returns-then-not-stayed
returns-then-not-stayed c = stay_fails _ _ _ c.args.link _ c.block_of-block.ensures c.args.at c.requires.kind (passed c.own_block.ensures (ap not c.if-not-own_block.false)) (failed c.stayed.ensures (ap not c.if-not-stayed.true))

pub overflow_cast-next : goal.overflow_cast-next
overflow_cast-next c = omega (arith, c.order_rows.ensures, order_count_at_most (eqb c.args.link.before 0) c.args.link.kind)

pub overflow_add-next : goal.overflow_add-next
overflow_add-next c = omega (arith, c.order_rows.ensures, order_count_at_most (eqb c.args.link.before 0) c.args.link.kind, c.requires.number)

pub returns-then-block-most_block : goal.returns-then-block-most_block
returns-then-block-most_block c = order_holds _ _ _ c.args.link _ c.block_of-block.ensures c.args.at c.requires.kind (passed c.own_block.ensures (ap not c.if-not-own_block.false)) (passed c.stayed.ensures (ap not c.if-not-stayed.false)) _ c.most_block.ensures c.order_rows.ensures c.if-block-most_block.true

pub overflow_sub-result : goal.overflow_sub-result
overflow_sub-result c = omega (arith, c.order_rows.ensures, order_count_at_least (eqb c.args.link.before 0) c.args.link.kind)

pub returns : goal.returns
returns c = follow_fails _ _ _ c.args.link _ c.block_of-block.ensures c.args.at c.requires.kind (passed c.own_block.ensures (ap not c.if-not-own_block.false)) (passed c.stayed.ensures (ap not c.if-not-stayed.false)) _ c.most_block.ensures c.order_rows.ensures c.if-block-most_block.false
