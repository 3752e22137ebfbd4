-- `turn::effect_of` meets its contract. Assumes nothing.
use mathlib.Core.Path.{sym, ◌∙◌}
use Rattle.turn.proofs.effect_of.Goals as goal

pub returns-then-guarded : goal.returns-then-guarded
returns-then-guarded c = λ k. c.effect_in.ensures k (sym (c.guarded.ensures _ _ _ _ k c.args.seen.now.counts.few_items) ∙ c.if-guarded.true)

pub returns : goal.returns
returns c = λ k. c.effect_out.ensures c.args.seen.now k (sym (c.guarded.ensures _ c.args.seen.now.counts.items _ _ k c.args.seen.now.counts.few_items) ∙ c.if-guarded.false)
