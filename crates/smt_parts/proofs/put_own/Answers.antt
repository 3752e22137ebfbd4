-- `put_own` puts a remainder and a number. Assumes nothing.
use Rattle.smt_parts.proofs.Order.{own_spelt}
use Rattle.smt_parts.proofs.put_own.Goals as goal

pub returns : goal.returns
returns c = own_spelt _ _ _ c.block_variable.ensures c.put.ensures c.put_two.ensures c.put-2.ensures c.put_constant.ensures c.put-3.ensures
