-- `put_comparison` puts a word and two atoms where it is no equation. Assumes nothing.
use Rattle.expressions.proofs.Expressions.{comparison_less}
use Rattle.expressions.proofs.put_comparison.Goals as goal

pub returns-else-op-eq5 : goal.returns-else-op-eq5
returns-else-op-eq5 c = comparison_less _ _ _ c.if-op-eq5.false c.put.ensures c.put_two.ensures
