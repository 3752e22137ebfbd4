-- `put_facts_with` puts one fact after the other. Assumes nothing.
use mathlib.Core.Path.{refl}
use Rattle.spell.proofs.Spelling.{left_start}
use Rattle.expressions.proofs.Facts.{seconds_more, seconds_end}
use Rattle.expressions.proofs.put_facts_with.Goals as goal

pub loop-second-init : goal.loop-second-init
loop-second-init c = left_start c.args.w.now.near refl

pub loop-second-preserved : goal.loop-second-preserved
loop-second-preserved c = seconds_more _ _ _ _ _ c.loop-second.invariant c.loop-second-test.true c.put_fact.ensures

pub returns : goal.returns
returns c = rw c.items-second-items.ensures at (seconds_end _ _ _ _ _ c.loop-second.invariant c.loop-second-test.false)
