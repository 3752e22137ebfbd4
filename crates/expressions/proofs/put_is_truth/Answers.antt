-- `put_is_truth` puts the facts around the equation. Assumes nothing.
use Rattle.expressions.proofs.Beside.{is_truth_spelt}
use Rattle.expressions.proofs.put_is_truth.Goals as goal

pub returns : goal.returns
returns c = λ case s. is_truth_spelt s _ _ _ _ c.put_facts_before.ensures c.put_truth_of.ensures c.put_facts_behind.ensures
