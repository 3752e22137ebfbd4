-- `put_linked` puts the links, the equation and what closes them. Assumes nothing.
use Rattle.linked.proofs.Links.{linked_spelt}
use Rattle.linked.proofs.put_linked.Goals as goal

pub returns : goal.returns
returns c = λ case s. linked_spelt s _ _ c.put_links.ensures c.put_equal.ensures (rw c.items.ensures at c.put_closing.ensures)
