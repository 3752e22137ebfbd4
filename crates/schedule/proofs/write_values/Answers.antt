-- `schedule::write_values` meets its contract. Assumes nothing.
use Rattle.schedule.proofs.Walks.{walk_start, walk_room, walk_few, walk_more, walk_end}
use Rattle.schedule.proofs.write_values.Goals as goal

pub loop-k-init : goal.loop-k-init
loop-k-init c = walk_start c.args.case.now.accepted c.requires c.first_of-k.ensures

pub put_number-at-requires : goal.put_number-at-requires
put_number-at-requires c =
    walk_room c.args.case.now.accepted c.loop-k.invariant c.loop-k-test.true c.record_at-l.ensures c.block_of-block.ensures c.value_of-value.ensures
    c.run_value-given.ensures c.requires.room

pub count_line-requires : goal.count_line-requires
count_line-requires c = walk_few c.args.case.now.accepted c.loop-k.invariant _

pub loop-k-preserved : goal.loop-k-preserved
loop-k-preserved c =
    walk_more c.args.case.now.accepted c.loop-k.invariant c.loop-k-test.true
    c.record_at-l.ensures
    c.block_of-block.ensures
    c.value_of-value.ensures
    c.run_value-given.ensures
    c.put_number-at.ensures
    c.globals-many.ensures
    c.target_name.ensures
    c.put_local.ensures
    c.count_line.ensures c.next_of-k.ensures

pub returns : goal.returns
returns c = walk_end c.args.case.now.accepted c.loop-k.invariant c.loop-k-test.false
