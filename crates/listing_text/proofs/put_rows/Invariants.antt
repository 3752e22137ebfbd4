-- `put_rows` puts the rows one after the other. Assumes nothing.
use Rattle.listing_text.proofs.Rows.{Rowing}
use Rattle.listing_text.proofs.put_rows.Given as goal

abbrev pub invariant-loop-i : goal.invariant-loop-i
invariant-loop-i l = Rowing l.table l.start l.count l.initial.text l.at l.i l.text
