-- `write_values` writes a thread's 4s and 5s and takes each line as the latest copy of its target. Assumes nothing.
use mathlib.Core.Path.{refl}
use native.Mathlib.Omega.{arith}
use Rattle.laws.proofs.Following.{lines_less}
use Rattle.laws.proofs.Sizes.{value_count_at_most}
use Rattle.model.specs.Copies.{walk_lines}
use Rattle.encoder.specs.Parts.{value_numbers}
use Rattle.encoder.proofs.Walking.{walking_start, walking_end, walking_whole}
use Rattle.encoder.proofs.Lines.{value_room, value_step, thread_taken}
use Rattle.encoder.proofs.write_values.Goals as goal

pub loop-k-init : goal.loop-k-init
unfolding value_numbers walk_lines
loop-k-init c = walking_start c.args.case.now.accepted c.requires.thread c.first_of-k.ensures c.requires.nothing refl

pub put_values-requires : goal.put_values-requires
put_values-requires c = value_room c.loop-k.invariant c.args.case.now.accepted c.loop-k-test.true c.record_at-l.ensures refl c.requires.room

pub overflow_mul-at : goal.overflow_mul-at
overflow_mul-at c = omega (arith, value_count_at_most c.record_at-l.result.kind, c.value_rows.ensures)

pub overflow_add-at : goal.overflow_add-at
overflow_add-at c =
    let v = c.loop-k.invariant in
    let room = value_room v c.args.case.now.accepted c.loop-k-test.true c.record_at-l.ensures c.value_rows.ensures c.requires.room in
    omega arith

pub loop-k-smaller : goal.loop-k-smaller
loop-k-smaller c = lines_less _ c.args.case.now.accepted _ _ c.loop-k-test.true c.loop-k.invariant.low _ c.next_of-k.ensures

pub loop-k-preserved : goal.loop-k-preserved
loop-k-preserved c =
    value_step c.loop-k.invariant c.args.case.now.accepted c.loop-k-test.true c.record_at-l.ensures c.globals-globals.ensures c.take_line-copies.ensures.value c.take_line-copies.ensures.held_after c.put_values.ensures
    c.value_rows.ensures c.next_of-k.ensures

pub shape_of-table : goal.shape_of-table
shape_of-table c = c.loop-k.invariant.writes.same

pub returns : goal.returns
returns c =
    let done = c.loop-k-test.false in
    record { put = walking_end c.loop-k.invariant done; all = thread_taken _ _ c.requires.thread c.loop-k.invariant.known (walking_whole c.loop-k.invariant done) }
