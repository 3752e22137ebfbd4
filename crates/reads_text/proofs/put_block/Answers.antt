-- `put_block` puts the question and what is then read. Assumes nothing.
use Rattle.reads_text.proofs.Blocks.{block_spelt}
use Rattle.reads_text.proofs.put_block.Goals as goal

pub returns : goal.returns
returns c = λ case f. block_spelt case _ _ _ _ _ c.value_before.result c.block_variable.ensures (c.value_before.ensures case f.shape) c.put.ensures c.put_equal.ensures c.put-2.ensures (c.put_same.ensures case f.sources) c.put-3.ensures
