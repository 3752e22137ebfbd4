-- `write_orders` writes the order rows, a thread at a time. Assumes nothing.
use native.Mathlib.Omega.{arith}
use Rattle.encoder.proofs.Series.{going_start, going_fits, going_more, going_end}
use Rattle.encoder.proofs.Parts.{orders_all}
use Rattle.encoder.proofs.write_orders.Goals as goal

pub loop-t-init : goal.loop-t-init
loop-t-init c = going_start (orders_all _ _ c.threads-threads.ensures)

pub write_order-at-requires-clause-room : goal.write_order-at-requires-clause-room
write_order-at-requires-clause-room c = going_fits c.loop-t.invariant c.loop-t-test.true (omega (arith, c.requires))

pub loop-t-preserved : goal.loop-t-preserved
loop-t-preserved c = going_more c.loop-t.invariant c.loop-t-test.true c.write_order-at.ensures

pub shape_of-table : goal.shape_of-table
shape_of-table c = c.loop-t.invariant.writes.same

pub returns : goal.returns
returns c = going_end c.loop-t.invariant c.loop-t-test.false
