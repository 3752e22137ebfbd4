-- `assignment::was_run` meets its contract. Assumes nothing.
use Rattle.assignment.proofs.Run.{run_of_block}
use Rattle.assignment.proofs.was_run.Goals as goal

pub returns : goal.returns
returns c = run_of_block _ _ _ c.switches.ensures
