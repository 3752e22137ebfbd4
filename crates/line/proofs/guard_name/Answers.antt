-- `line::guard_name` meets its contract: a guard over 32 names no local. Assumes nothing.
use Rattle.std.proofs.Common.{◌-◌, arith, le-ltb, lt-ltb, ne_eqb}
use Rattle.model.specs.Line.{guard_name, local_name}
use Rattle.line.proofs.guard_name.Goals as goal

pub returns-in-0 : goal.returns-in-0
unfolding guard_name
returns-in-0 c k = rw c.in-0.is

pub returns-in-1-to-16 : goal.returns-in-1-to-16
unfolding guard_name
returns-in-1-to-16 c k = rw (ne_eqb c.args.l.guard 0 (omega arith), lt-ltb c.args.l.guard 17 (omega arith)) c.local_name.ensures

pub returns-in-17-to-32 : goal.returns-in-17-to-32
unfolding guard_name
returns-in-17-to-32 c k = rw (ne_eqb c.args.l.guard 0 (omega arith), le-ltb c.args.l.guard 17 (omega arith)) c.local_name-in-17-to-32.ensures

pub returns-in_default : goal.returns-in_default
unfolding guard_name local_name
returns-in_default c k = rw (ne_eqb c.args.l.guard 0 (omega arith), le-ltb c.args.l.guard 17 (omega arith), le-ltb (c.args.l.guard - 17) 16 (omega arith))
