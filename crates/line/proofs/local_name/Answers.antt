-- `line::local_name` meets its contract. Assumes nothing.
use Rattle.model.specs.Line.{local_name}
use Rattle.std.proofs.Common.{le-ltb, lt-ltb}
use Rattle.line.proofs.local_name.Goals as goal

pub returns-then-name-lt-LOCALS : goal.returns-then-name-lt-LOCALS
unfolding local_name
returns-then-name-lt-LOCALS c = rw (lt-ltb _ _ c.if-name-lt-LOCALS.true)

pub returns-else-name-lt-LOCALS : goal.returns-else-name-lt-LOCALS
unfolding local_name
returns-else-name-lt-LOCALS c = rw (le-ltb _ _ c.if-name-lt-LOCALS.false)
