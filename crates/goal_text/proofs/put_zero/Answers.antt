-- `put_zero` puts an equation and a blank. Assumes nothing.
use Rattle.goal_text.proofs.Heads.{zero_spelt}
use Rattle.goal_text.proofs.put_zero.Goals as goal

pub returns : goal.returns
returns c = zero_spelt _ c.value_variable.ensures c.put.ensures c.put_equal.ensures c.put-2.ensures
