-- `put_line` puts its numbers one after the other, the last with a line feed. Assumes nothing.
use Rattle.listing_text.proofs.Rows.{Lining}
use Rattle.listing_text.proofs.put_line.Given as goal

abbrev pub invariant-loop-j : goal.invariant-loop-j
invariant-loop-j l = Lining l.numbers l.start l.last l.initial.text l.at l.j l.text
