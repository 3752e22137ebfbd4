-- `put_fact` puts two equations and two comparisons. Assumes nothing.
use Rattle.expressions.proofs.Facts.{fact_spelt}
use Rattle.expressions.proofs.put_fact.Goals as goal

pub returns : goal.returns
returns c = fact_spelt _ _ _ _ _ c.value_variable.ensures c.value_variable-2.ensures c.put.ensures c.put_equal.ensures c.put-2.ensures c.put_equal-2.ensures c.put-3.ensures c.put_comparison.ensures c.put-4.ensures c.put_comparison-2.ensures c.put-5.ensures
