-- `note_row` notes a row of its kind, and no other. Assumes nothing.
use Rattle.walk_text.proofs.Noting.{other_row, own_row, far_row}
use Rattle.walk_text.proofs.note_row.Goals as goal

pub returns-then-at-kind : goal.returns-then-at-kind
returns-then-at-kind c = other_row _ _ _ _ _ c.at.ensures c.if-at-kind.true

pub returns-then-line-notes : goal.returns-then-line-notes
returns-then-line-notes c = own_row _ _ _ _ _ c.at.ensures c.if-at-kind.false c.at-line.ensures c.at-then-line-notes.ensures

pub returns-else-line-notes : goal.returns-else-line-notes
returns-else-line-notes c = far_row _ _ _ _ _ c.at.ensures c.if-at-kind.false c.at-line.ensures c.if-line-notes.false
