-- `turn::Turn::block` meets its contract. The invariant: the steps that are left decide. Assumes nothing.
use mathlib.Core.Path.{refl}
use Prim.Native.Nat.{◌+◌, ◌-◌}
use native.Mathlib.Omega.{arith}
use Rattle.turn.proofs.Steps.{step_strays, step_stops, step_goes, step_traced}
use Rattle.turn.proofs.Blocks.{stepping_on, block_ends, thread_ends, line_ends}
use Rattle.turn.proofs.Turn.block.Goals as goal

pub returns-then-at-eq0 : goal.returns-then-at-eq0
returns-then-at-eq0 c = thread_ends _ _ _ _ _ _ _ c.loop.invariant c.if-at-eq0.true

pub returns-in-Strays : goal.returns-in-Strays
returns-in-Strays c =
    rw c.ended.ensures
    (line_ends _ _ _ _ _ _ _ c.loop.invariant c.args.case.now.accepted {n = c.args.steps - (c.loop.counter + 1)} (omega (arith, c.loop-test.true)) c.if-at-eq0.false _
    (step_strays c.args.given.now _ c.loop.self c.of-counts.ensures c.record_at-l.ensures (c.in-Strays.ensures _)) refl c.loop.invariant.within)

pub returns-in-Stops : goal.returns-in-Stops
returns-in-Stops c =
    rw c.ended-in-Stops.ensures
    (line_ends _ _ _ _ _ _ _ c.loop.invariant c.args.case.now.accepted {n = c.args.steps - (c.loop.counter + 1)} (omega (arith, c.loop-test.true)) c.if-at-eq0.false _
    (step_stops c.args.given.now _ c.loop.self c.of-counts.ensures c.record_at-l.ensures (c.in-Stops.ensures _)) refl c.loop.invariant.within)

pub loop-preserved : goal.loop-preserved
loop-preserved c =
    rw c.step-self.ensures
    (stepping_on _ _ _ _ _ _ _ c.loop.invariant c.args.case.now.accepted {n = c.args.steps - (c.loop.counter + 1)} (omega (arith, c.loop-test.true)) c.if-at-eq0.false _
    (step_goes c.args.given.now _ c.loop.self c.of-counts.ensures c.record_at-l.ensures (c.in-Writes.ensures _)
    _ _ c.put_local.ensures c.put_item.ensures _ c.loop.invariant.runs) _
    (step_traced c.args.given.now _ c.loop.self c.of-counts.ensures c.record_at-l.ensures (c.in-Writes.ensures _)
    _ _ c.put_local.ensures c.put_item.ensures _ _ _ _ (c.trace_line.ensures _ _)) refl c.next_of.ensures)

pub returns : goal.returns
returns c = block_ends _ _ _ _ _ _ _ c.loop.invariant (omega (arith, c.loop-test.false))
