-- `turn::Turn::block` meets its contract. The invariant: the steps that are left decide. Assumes nothing.
use Prim.Native.Nat.{◌-◌}
use Rattle.turn.proofs.Blocks.{Stepping}
use Rattle.turn.proofs.Turn.block.Given as goal

abbrev pub invariant-loop : goal.invariant-loop
invariant-loop l = Stepping l.case.bytes.now l.given l.t l.i l.steps l.initial.self l.initial.trace (l.steps - l.counter) l.self l.trace
