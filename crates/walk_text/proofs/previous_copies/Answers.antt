-- `previous_copies` notes the 4s of the table. Assumes nothing.
use Rattle.walk_text.proofs.Previous.{copies_noted}
use Rattle.walk_text.proofs.previous_copies.Goals as goal

pub returns : goal.returns
returns c = copies_noted c.note_rows.ensures
