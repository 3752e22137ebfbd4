-- `note_rows` notes each row of the table. Assumes nothing.
use Rattle.walk_text.proofs.Noting.{Noting}
use Rattle.walk_text.proofs.note_rows.Given as goal

abbrev pub invariant-loop-j : goal.invariant-loop-j
invariant-loop-j l = Noting l.kind l.place l.table l.count l.j l.notes
