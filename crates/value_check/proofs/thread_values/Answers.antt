-- `value_check::thread_values` meets its contract. Assumes nothing.
use native.Mathlib.Omega.{arith}
use Rattle.std.proofs.lemmas.Result.{err_from_is_err_and}
use Rattle.laws.proofs.Sizes.{value_count_at_most}
use Rattle.value_check.proofs.ThreadWalk.{walk_start, walk_end, walk_notes, walk_room, walk_block, walk_room_after, walk_found, walk_more}
use Rattle.value_check.proofs.thread_values.Goals as goal

pub loop-k-init : goal.loop-k-init
loop-k-init c = walk_start c.args.case.now.accepted c.requires _ _ _ c.first_of-k.ensures c.start_of_block-items.ensures

pub enter_block-run-requires : goal.enter_block-run-requires
enter_block-run-requires c =
    walk_block c.args.case.now.accepted c.requires c.loop-k.invariant c.loop-k-test.true _ c.block_of-i.ensures

pub line_failing-requires : goal.line_failing-requires
line_failing-requires c = walk_room c.args.case.now.accepted c.requires c.loop-k.invariant c.loop-k-test.true

pub returns-in_err-line_failing : goal.returns-in_err-line_failing
returns-in_err-line_failing c =
    let p = err_from_is_err_and c.from_residual.result c.from_residual.ensures.1 in
    rw (p.1, p.2)
    (record {
      found = walk_found c.args.case.now.accepted c.requires c.loop-k.invariant c.loop-k-test.true _ c.block_of-i.ensures _ c.record_at-l.ensures _ c.value_of-value.ensures _ _ c.enter_block-run.ensures _
          c.of-counts.ensures _ c.asked_of-asked.ensures c.in_err-line_failing.ensures;
      walked = tt;
    })

pub overflow_cast-at : goal.overflow_cast-at
overflow_cast-at c = omega (arith, value_count_at_most c.record_at-l.result.kind, c.value_rows.ensures)

pub overflow_add-at : goal.overflow_add-at
overflow_add-at c =
    omega (
      arith,
      walk_room_after c.args.case.now.accepted c.requires c.loop-k.invariant c.loop-k-test.true _ c.block_of-i.ensures _ c.record_at-l.ensures _ c.value_of-value.ensures _ _ c.enter_block-run.ensures _
          c.of-counts.ensures _ c.asked_of-asked.ensures c.value_rows.ensures,
    )

pub loop-k-preserved : goal.loop-k-preserved
loop-k-preserved c =
    walk_more c.args.case.now.accepted c.requires c.loop-k.invariant c.loop-k-test.true _ c.block_of-i.ensures _ c.record_at-l.ensures _ c.value_of-value.ensures _ _ c.enter_block-run.ensures _
    c.of-counts.ensures _ c.asked_of-asked.ensures c.in_ok-line_failing.ensures _ c.noted-broken.ensures _ c.value_rows.ensures
    c.note_copy.ensures _ _ c.put_local.ensures c.put_item.ensures _ c.next_of-k.ensures

pub returns : goal.returns
returns c = record { found = walk_end c.args.case.now.accepted c.requires c.loop-k.invariant c.loop-k-test.false; walked = walk_notes c.args.case.now.accepted c.requires c.loop-k.invariant c.loop-k-test.false }
