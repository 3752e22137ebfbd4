-- `line::guarded` meets its contract: a guard over 32 names no local, and holds. Assumes nothing.
use Rattle.std.proofs.Common.{◌-◌, arith, le-ltb, lt-ltb, ne_eqb}
use Rattle.model.specs.Line.{guard_name, guard_true}
use Rattle.line.proofs.Memories.{look_no_local}
use Rattle.line.proofs.guarded.Goals as goal

pub returns-in-0 : goal.returns-in-0
unfolding guard_true
returns-in-0 c = λ G count given items k few. rw c.in-0.is

pub returns-in-1-to-16 : goal.returns-in-1-to-16
unfolding guard_true guard_name
returns-in-1-to-16 c = λ G count given items k few. rw (ne_eqb c.args.l.guard 0 (omega arith), lt-ltb c.args.l.guard 17 (omega arith), ← (c.local_at.ensures items count few))

pub returns-in-17-to-32 : goal.returns-in-17-to-32
unfolding guard_true guard_name
returns-in-17-to-32 c = λ G count given items k few. rw (ne_eqb c.args.l.guard 0 (omega arith), le-ltb c.args.l.guard 17 (omega arith), ← (c.local_at-in-17-to-32.ensures items count few))

pub returns-in_default : goal.returns-in_default
unfolding guard_true guard_name
returns-in_default c = λ G count given items k few. rw (ne_eqb c.args.l.guard 0 (omega arith), le-ltb c.args.l.guard 17 (omega arith), ← (look_no_local c.args.locals.now items count few (c.args.l.guard - 17) (omega arith)))
