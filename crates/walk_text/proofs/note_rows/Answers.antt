-- `note_rows` notes each row of the table. Assumes nothing.
use Rattle.walk_text.proofs.Noting.{noting_start, noting_more, noting_end}
use Rattle.walk_text.proofs.note_rows.Goals as goal

pub loop-j-init : goal.loop-j-init
loop-j-init c = noting_start

pub loop-j-preserved : goal.loop-j-preserved
loop-j-preserved c = noting_more c.loop-j.invariant c.loop-j-test.true c.note_row.ensures

pub returns : goal.returns
returns c = noting_end c.loop-j.invariant c.loop-j-test.false
