-- `value_check::asked_unrun` meets its contract. Assumes nothing.
use Rattle.value_check.proofs.Asking.{asks_unrun}
use Rattle.value_check.proofs.asked_unrun.Goals as goal

pub returns : goal.returns
returns c k reads value = rw c.four.ensures (asks_unrun _ _ _ _ _ _ c.unrun_value.ensures (c.target_name.ensures k))
