-- `put_truth_of` puts a word after the other. Assumes nothing.
use Rattle.expressions.proofs.Beside.{truth_spelt}
use Rattle.expressions.proofs.put_truth_of.Goals as goal

pub returns : goal.returns
returns c = truth_spelt _ _ c.put.ensures c.put_atom.ensures c.put-2.ensures c.put_expression.ensures c.put-3.ensures
