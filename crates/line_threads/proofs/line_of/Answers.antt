-- `line_of` reads the record with the thread that was noted for it. Assumes nothing.
use Rattle.line_threads.proofs.RecordLines.{line_there}
use Rattle.line_threads.proofs.line_of.Goals as goal

pub returns : goal.returns
returns c = line_there c.requires.accepted c.requires.number _ c.requires.lines c.at.ensures c.record_at.ensures
