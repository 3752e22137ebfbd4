-- `threads_of` notes the 3s of the table. Assumes nothing.
use Rattle.line_threads.proofs.Noted.{noted_threads}
use Rattle.line_threads.proofs.threads_of.Goals as goal

pub returns : goal.returns
returns c = noted_threads c.note_rows.ensures
