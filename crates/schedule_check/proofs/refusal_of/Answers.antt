-- `schedule_check::refusal_of` meets its contract. Assumes nothing.
use Rattle.std.proofs.Common.{ap, not}
use mathlib.Core.Path.{sym}
use Prim.Native.Nat.{◌+◌}
use lib.Seq.{length-take-le}
use borrow.Author.Tests.{not-true, not-false}
use Rattle.schedule_check.proofs.Refusals.{looked_12, has_lengths, looked_13, looked_none}
use borrow.Author.Rules.{rules}
use Rattle.schedule_check.proofs.refusal_of.Goals as goal

pub returns-then-schedule-used : goal.returns-then-schedule-used
returns-then-schedule-used c = looked_12 _ _ _ c.args.case.now.accepted c.requires c.switches.ensures c.inputs_of-counts.ensures.values c.if-schedule-used.true

pub slice_bounds-lengths-end : goal.slice_bounds-lengths-end
slice_bounds-lengths-end c = sym (length-take-le _ _ (has_lengths _ _ _ c.args.case.now.accepted c.requires c.switches.ensures c.inputs_of-counts.ensures.values c.if-schedule-used.false))

pub lengths_fit-requires : goal.lengths_fit-requires
lengths_fit-requires c =
    let long = length-take-le (c.switches.result + 1) c.args.schedule.now (has_lengths _ _ _ c.args.case.now.accepted c.requires c.switches.ensures c.inputs_of-counts.ensures.values c.if-schedule-used.false) in
    search rules

pub returns-then-not-lengths_fit : goal.returns-then-not-lengths_fit
returns-then-not-lengths_fit c = looked_13 _ _ _ c.args.case.now.accepted c.requires c.switches.ensures c.inputs_of-counts.ensures.values c.if-schedule-used.false c.lengths_fit.ensures (not-true _ (ap not c.if-not-lengths_fit.true))

pub returns : goal.returns
returns c = looked_none _ _ _ c.args.case.now.accepted c.requires c.switches.ensures c.inputs_of-counts.ensures.values c.if-schedule-used.false c.lengths_fit.ensures (not-false _ (ap not c.if-not-lengths_fit.false))
