-- `put_before` puts the blocks, `true` and what closes them. Assumes nothing.
use Rattle.reads_text.proofs.Blocks.{before_spelt}
use Rattle.reads_text.proofs.put_before.Goals as goal

pub returns : goal.returns
returns c = λ case f. before_spelt case _ _ _ _ _ (c.put_blocks-many.ensures case f) c.put.ensures c.put_closing.ensures
