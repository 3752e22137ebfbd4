-- `run::put_at` meets its contract. Assumes nothing.
use mathlib.Core.Path.{sym}
use lib.Seq.{set_out}
use Rattle.run.proofs.put_at.Goals as goal

pub returns-else-at-trace : goal.returns-else-at-trace
returns-else-at-trace c = sym (set_out _ _ _ c.if-at-trace.false)
