-- `case_file::first_items` meets its contract. The invariant: the items so far are those of the first g globals. Assumes nothing.
use Rattle.case_file.proofs.FirstItems.{Started}
use Rattle.case_file.proofs.first_items.Given as goal

abbrev pub invariant-loop-g : goal.invariant-loop-g
invariant-loop-g l = Started l.case l.globals l.items l.g
