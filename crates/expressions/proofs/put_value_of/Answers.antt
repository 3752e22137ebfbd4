-- `put_value_of` puts a word after the other. Assumes nothing.
use Rattle.expressions.proofs.Beside.{value_spelt}
use Rattle.expressions.proofs.put_value_of.Goals as goal

pub returns : goal.returns
returns c = value_spelt _ _ c.put.ensures c.put_atom.ensures c.put-2.ensures c.put_expression.ensures c.put-3.ensures
