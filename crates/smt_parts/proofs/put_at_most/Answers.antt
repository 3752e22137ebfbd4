-- `put_at_most` puts a word and two atoms. Assumes nothing.
use Rattle.smt_parts.proofs.Order.{at_most_spelt}
use Rattle.smt_parts.proofs.put_at_most.Goals as goal

pub returns : goal.returns
returns c = at_most_spelt _ _ c.put.ensures c.put_two.ensures
