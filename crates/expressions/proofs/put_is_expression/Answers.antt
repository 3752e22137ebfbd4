-- `put_is_expression` puts the facts around the equation. Assumes nothing.
use Rattle.expressions.proofs.Beside.{expression_spelt}
use Rattle.expressions.proofs.put_is_expression.Goals as goal

pub returns-else-op-eq0 : goal.returns-else-op-eq0
returns-else-op-eq0 c = λ case s. expression_spelt s _ _ _ _ c.put_facts_before.ensures c.if-op-eq0.false c.put_value_of.ensures c.put_facts_behind.ensures
