-- `put_walk` puts the copies, what stands innermost and what closes them. Assumes nothing.
use Rattle.walk_text.proofs.CopyHeads.{walk_spelt}
use Rattle.walk_text.proofs.put_walk.Goals as goal

pub returns : goal.returns
returns c = λ case f. walk_spelt case _ f.shape _ c.args.i c.args.g _ c.put_copies-many.ensures.count c.block_value.ensures (c.value_before.ensures case f.shape) (c.put_copies-many.ensures.text case f) (c.put_same.ensures case f.sources) c.put_closing.ensures
