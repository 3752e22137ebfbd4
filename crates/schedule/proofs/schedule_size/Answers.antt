-- `schedule::schedule_size` meets its contract. Assumes nothing.
use native.Mathlib.Omega.{arith}
use borrow.Author.Rules.{rules}
use Rattle.schedule.proofs.Sizes.{sizing_start, sizing_more, sizing_few, sizing_end}
use Rattle.schedule.proofs.schedule_size.Goals as goal

pub loop-k-init : goal.loop-k-init
loop-k-init c = sizing_start c.args.case.now.accepted c.switches.ensures

pub overflow_add-n-in-loop-k : goal.overflow_add-n-in-loop-k
overflow_add-n-in-loop-k c = let few = sizing_few c.args.case.now.accepted (sizing_more c.loop-k.invariant (omega (arith, c.records-last.ensures)) c.kind_of.ensures c.inputs_of-n.ensures) in search rules

pub loop-k-preserved : goal.loop-k-preserved
loop-k-preserved c = sizing_more c.loop-k.invariant (omega (arith, c.records-last.ensures)) c.kind_of.ensures c.inputs_of-n.ensures

pub returns : goal.returns
returns c = sizing_end c.args.case.now.accepted c.loop-k.invariant (omega (arith, c.records-last.ensures))
