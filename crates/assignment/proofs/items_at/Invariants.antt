-- `assignment::items_at` meets its contract. Assumes nothing.
use Rattle.assignment.specs.Numbers.{number_from}
use Rattle.assignment.proofs.BlockValues.{Filling}
use Rattle.assignment.proofs.items_at.Given as goal

abbrev pub invariant-loop-g : goal.invariant-loop-g
invariant-loop-g l = Filling (number_from l.assignment l.place) l.count l.g l.items
