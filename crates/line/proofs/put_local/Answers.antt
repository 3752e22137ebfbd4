-- `line::put_local` meets its contract. Assumes nothing.
use Rattle.std.proofs.Common.{le-ltb, lt-ltb}
use Rattle.model.specs.Machine.{put_local}
use Rattle.line.proofs.put_local.Goals as goal

pub returns-then-name-lt-LOCALS : goal.returns-then-name-lt-LOCALS
unfolding put_local
returns-then-name-lt-LOCALS c = rw (lt-ltb _ _ c.if-name-lt-LOCALS.true)

pub returns-else-name-lt-LOCALS : goal.returns-else-name-lt-LOCALS
unfolding put_local
returns-else-name-lt-LOCALS c = rw (le-ltb _ _ c.if-name-lt-LOCALS.false)
