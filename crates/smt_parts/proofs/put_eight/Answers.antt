-- `put_eight` puts both parts. Assumes nothing.
use Rattle.smt_parts.proofs.Order.{or_spelt, together_spelt}
use Rattle.smt_parts.proofs.put_eight.Goals as goal

pub returns : goal.returns
returns c = λ case s. or_spelt case _ _ (c.put_unrun_or.ensures case s) (together_spelt _ _ c.block_variable.ensures c.block_variable-2.ensures c.put_equal.ensures) c.put.ensures
