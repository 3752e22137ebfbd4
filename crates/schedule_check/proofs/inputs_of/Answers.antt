-- `schedule_check::inputs_of` meets its contract. The invariant: the threads that are left decide. Assumes nothing.
use native.Mathlib.Omega.{arith}
use Rattle.schedule_check.proofs.InputLoops.{spreading_more, spreading_end}
use Rattle.schedule_check.proofs.inputs_of.Goals as goal

pub loop-t-preserved : goal.loop-t-preserved
loop-t-preserved c = spreading_more _ _ _ c.args.case.now.accepted _ _ _ c.loop-t.invariant _ _ (omega (arith, c.threads-threads.ensures)) c.put_thread-w.ensures

pub returns : goal.returns
returns c = spreading_end _ _ _ c.args.case.now.accepted _ _ _ c.loop-t.invariant (omega (arith, c.threads-threads.ensures))
