-- `line::local_at` meets its contract. Assumes nothing.
use Rattle.line.proofs.Memories.{look_local, look_no_local}
use Rattle.line.proofs.local_at.Goals as goal

pub returns-then-at-lt-LOCALS : goal.returns-then-at-lt-LOCALS
returns-then-at-lt-LOCALS c items count few = look_local _ items count _ c.if-at-lt-LOCALS.true

pub returns-else-at-lt-LOCALS : goal.returns-else-at-lt-LOCALS
returns-else-at-lt-LOCALS c items count few = look_no_local c.args.locals.now items count few _ c.if-at-lt-LOCALS.false
