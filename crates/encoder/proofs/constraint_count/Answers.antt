-- `constraint_count` counts the rows, a record at a time, and takes the first lines' 8s away. Assumes nothing.
use borrow.Author.Rules.{rules}
use native.Mathlib.Omega.{arith}
use Rattle.encoder.proofs.Counts.{counting_start, few_rows, counting_more, records_count, table_count}
use Rattle.encoder.proofs.constraint_count.Goals as goal

pub loop-k-init : goal.loop-k-init
loop-k-init c = counting_start _

pub overflow_add-n : goal.overflow_add-n
overflow_add-n c = omega (arith, few_rows _ c.order_rows.ensures c.value_rows.ensures)

pub overflow_add-n-in-loop-k : goal.overflow_add-n-in-loop-k
overflow_add-n-in-loop-k c = omega (arith, few_rows _ c.order_rows.ensures c.value_rows.ensures)

pub loop-k-preserved : goal.loop-k-preserved
loop-k-preserved c = counting_more _ _ _ c.loop-k.invariant (search rules) _ _ _ c.kind_of-kind.ensures c.order_rows.ensures c.value_rows.ensures

pub overflow_sub-result : goal.overflow_sub-result
overflow_sub-result c = omega (arith, c.invisible_firsts.ensures, records_count _ c.args.case.now.accepted c.loop-k.invariant (search rules))

pub returns : goal.returns
returns c = table_count _ c.args.case.now.accepted c.loop-k.invariant (search rules) c.invisible_firsts.ensures c.block_values.ensures.is
