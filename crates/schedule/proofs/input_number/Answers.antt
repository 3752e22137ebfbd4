-- `schedule::input_number` meets its contract. Assumes nothing.
use mathlib.Core.List.{[]}
use native.Mathlib.Omega.{arith}
use Rattle.schedule.specs.Schedules.{input_number}
use Rattle.schedule.proofs.input_number.Goals as goal

pub returns-then-guarded : goal.returns-then-guarded
unfolding input_number
returns-then-guarded c = rw (← (c.guarded.ensures 0 0 0 [] 0 (omega arith)), c.if-guarded.true)

pub returns-else-guarded : goal.returns-else-guarded
unfolding input_number
returns-else-guarded c = rw (← (c.guarded.ensures 0 0 0 [] 0 (omega arith)), c.if-guarded.false)
