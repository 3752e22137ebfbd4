-- `put_links` puts one link after the other. Assumes nothing.
use lib.ListN.{drop}
use Rattle.linked.specs.Links.{link_heads}
use Rattle.spell.proofs.Spelling.{Remains}
use Rattle.linked.proofs.put_links.Given as goal

abbrev pub invariant-loop-source : goal.invariant-loop-source
invariant-loop-source l = Remains (link_heads l.x l.y l.source-items) l.initial.w l.w (link_heads l.x l.y (drop l.source-index l.source-items))
