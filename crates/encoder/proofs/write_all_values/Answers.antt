-- `write_all_values` writes the 4s and 5s, a thread at a time. Assumes nothing.
use native.Mathlib.Omega.{arith}
use Rattle.encoder.proofs.Series.{going_start, going_fits}
use Rattle.encoder.proofs.Parts.{values_all, thread_low, taking_more, taking_end}
use Rattle.encoder.proofs.write_all_values.Goals as goal

pub loop-thread-init : goal.loop-thread-init
loop-thread-init c = record { held = c.requires.held; going = going_start (values_all _ _ c.threads-threads.ensures) }

pub offset_bounds-latest-thread : goal.offset_bounds-latest-thread
offset_bounds-latest-thread c = omega (arith, thread_low c.args.case.now.accepted c.threads-threads.ensures c.loop-thread-test.true)

pub write_values-at-requires-clause-room : goal.write_values-at-requires-clause-room
write_values-at-requires-clause-room c = going_fits c.loop-thread.invariant.going c.loop-thread-test.true c.requires.room

pub loop-thread-preserved : goal.loop-thread-preserved
loop-thread-preserved c = taking_more _ c.loop-thread.invariant c.loop-thread-test.true (thread_low c.args.case.now.accepted c.threads-threads.ensures c.loop-thread-test.true) c.write_values-at.ensures

pub shape_of-table : goal.shape_of-table
shape_of-table c = c.loop-thread.invariant.going.writes.same

pub returns : goal.returns
returns c = taking_end _ c.loop-thread.invariant c.threads-threads.ensures c.loop-thread-test.false
