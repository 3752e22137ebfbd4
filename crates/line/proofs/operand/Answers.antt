-- `line::operand` meets its contract. Assumes nothing.
use Rattle.std.proofs.Common.{ne_eqb}
use Rattle.line.proofs.Memories.{operand_local, look_no_local}
use Rattle.line.proofs.operand.Goals as goal

pub returns-then-at-lt-LOCALS : goal.returns-then-at-lt-LOCALS
returns-then-at-lt-LOCALS c items count few = operand_local _ items count _ _ c.if-at-lt-LOCALS.true

pub returns-then-at-eq-LOCALS : goal.returns-then-at-eq-LOCALS
returns-then-at-eq-LOCALS c items count few = rw c.if-at-eq-LOCALS.true

pub returns-else-at-eq-LOCALS : goal.returns-else-at-eq-LOCALS
returns-else-at-eq-LOCALS c items count few = rw (ne_eqb _ _ c.if-at-eq-LOCALS.false) (look_no_local c.args.locals.now items count few _ c.if-at-lt-LOCALS.false)
