-- `turn::Turn::step` meets its contract. Assumes nothing.
use Rattle.turn.proofs.Turn.step.Goals as goal

pub returns : goal.returns
returns c = rw c.noted.ensures
