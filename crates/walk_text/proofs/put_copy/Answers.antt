-- `put_copy` puts a copy's question and its answer. Assumes nothing.
use Rattle.walk_text.proofs.CopyHeads.{copy_spelt}
use Rattle.walk_text.proofs.put_copy.Goals as goal

pub returns : goal.returns
returns c = λ case f. copy_spelt case _ f.shape _ c.args.i c.args.g c.args.p c.block_variable.ensures c.value_variable.ensures c.block_value.ensures c.put.ensures c.put_equal.ensures c.put-2.ensures (c.put_same.ensures case f.sources) c.put-3.ensures
