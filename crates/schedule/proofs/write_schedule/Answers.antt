-- `schedule::write_schedule` meets its contract. Assumes nothing.
use borrow.Author.Rules.{rules}
use Rattle.schedule.proofs.Whole.{length_values, schedule_written}
use Rattle.schedule.proofs.write_schedule.Goals as goal

pub write_all_values-counts-requires : goal.write_all_values-counts-requires
write_all_values-counts-requires c = let size = length_values c.args.case.now.bytes.now c.args.assignment.now in search rules

pub returns : goal.returns
returns c =
    schedule_written c.args.case.now.accepted c.requires
    c.switches-last.ensures
    c.write_all_values-counts.ensures c.write_lengths.ensures
