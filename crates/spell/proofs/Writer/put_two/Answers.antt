-- `put_two` puts one atom after the other. Assumes nothing.
use Rattle.spell.proofs.Atoms.{two_spelt}
use Rattle.spell.proofs.Writer.put_two.Goals as goal

pub returns : goal.returns
returns c = two_spelt _ _ c.put_atom.ensures c.put.ensures c.put_atom-2.ensures c.put-2.ensures
