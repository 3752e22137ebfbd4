-- `put_facts` puts the facts of one first source after the other. Assumes nothing.
use mathlib.Core.Path.{refl}
use Rattle.spell.proofs.Spelling.{left_start}
use Rattle.expressions.proofs.Facts.{firsts_more, firsts_end}
use Rattle.expressions.proofs.put_facts.Goals as goal

pub loop-first-init : goal.loop-first-init
loop-first-init c = left_start c.args.w.now.near refl

pub loop-first-preserved : goal.loop-first-preserved
loop-first-preserved c = firsts_more _ _ _ _ _ c.loop-first.invariant c.loop-first-test.true c.put_facts_with.ensures

pub returns : goal.returns
returns c = rw c.items-first-items.ensures at (firsts_end _ _ _ _ _ c.loop-first.invariant c.loop-first-test.false)
