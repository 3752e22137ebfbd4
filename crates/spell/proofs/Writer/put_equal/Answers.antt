-- `put_equal` puts a word and two atoms. Assumes nothing.
use Rattle.spell.proofs.Atoms.{equal_spelt}
use Rattle.spell.proofs.Writer.put_equal.Goals as goal

pub returns : goal.returns
returns c = equal_spelt _ _ c.put.ensures c.put_two.ensures
