-- `put_three` puts both parts. Assumes nothing.
use Rattle.smt_parts.proofs.Order.{or_spelt}
use Rattle.smt_parts.proofs.put_three.Goals as goal

pub returns : goal.returns
returns c = λ case s. or_spelt case _ _ (c.put_unrun_or.ensures case s) c.put_own.ensures c.put.ensures
