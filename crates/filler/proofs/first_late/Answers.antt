-- `filler::first_late` meets its contract. The invariant: no line is late in the threads before this one. Assumes nothing.
use native.Mathlib.Omega.{arith}
use Rattle.filler.proofs.Lateness.{on_ready, on_more, on_found, on_end}
use Rattle.filler.proofs.first_late.Goals as goal

pub late_in-requires : goal.late_in-requires
late_in-requires c = on_ready _ _ c.loop-t.invariant c.args.case.now.accepted (omega (arith, c.loop-t-test.true, c.threads-t-end.ensures)) c.first_of.ensures

pub returns-in-Some : goal.returns-in-Some
returns-in-Some c = on_found _ _ c.loop-t.invariant (omega (arith, c.loop-t-test.true, c.threads-t-end.ensures)) c.first_of.ensures c.late_in.ensures c.in-Some.is

pub loop-t-preserved : goal.loop-t-preserved
loop-t-preserved c = on_more _ _ c.loop-t.invariant (omega (arith, c.loop-t-test.true, c.threads-t-end.ensures)) c.first_of.ensures c.late_in.ensures c.in_default.is

pub returns : goal.returns
returns c = on_end _ _ c.loop-t.invariant (omega (arith, c.loop-t-test.false, c.threads-t-end.ensures))
