-- `run::put_items` meets its contract. Assumes nothing.
use mathlib.Core.Path.{refl}
use native.Mathlib.Omega.{arith}
use Rattle.run.proofs.ItemsPut.{trace_ends}
use Rattle.run.proofs.put_items.Goals as goal

pub returns-then-trace-start : goal.returns-then-trace-start
returns-then-trace-start c =
    trace_ends c.args.case.now.bytes.now c.args.i c.args.shared.items c.args.trace.now (omega (arith, c.if-n-i.false, c.switches-n.ensures)) _ _ _ c.records.ensures c.items-count.ensures.is refl c.if-trace-start.true
