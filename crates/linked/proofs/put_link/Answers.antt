-- `put_link` puts two equations in their words. Assumes nothing.
use Rattle.linked.proofs.Links.{link_spelt}
use Rattle.linked.proofs.put_link.Goals as goal

pub returns : goal.returns
returns c = link_spelt _ _ _ c.value_variable.ensures c.put.ensures c.put_equal.ensures c.put-2.ensures c.put_equal-2.ensures c.put-3.ensures
