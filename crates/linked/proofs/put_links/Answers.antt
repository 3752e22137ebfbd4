-- `put_links` puts one link after the other. Assumes nothing.
use mathlib.Core.Path.{refl}
use Rattle.spell.proofs.Spelling.{left_start}
use Rattle.linked.proofs.Links.{links_more, links_end}
use Rattle.linked.proofs.put_links.Goals as goal

pub loop-source-init : goal.loop-source-init
loop-source-init c = left_start c.args.w.now.near refl

pub loop-source-preserved : goal.loop-source-preserved
loop-source-preserved c = links_more _ _ _ c.loop-source.invariant c.loop-source-test.true c.put_link.ensures

pub returns : goal.returns
returns c = rw c.items-source-items.ensures at (links_end _ _ _ c.loop-source.invariant c.loop-source-test.false)
