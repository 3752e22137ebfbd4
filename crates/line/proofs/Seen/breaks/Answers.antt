-- `line::Seen::breaks` meets its contract. Assumes nothing.
use Rattle.std.proofs.Common.{ap, ◌∙◌}
use Rattle.model.specs.Machine.{look}
use Rattle.line.proofs.Breaking.{mutex_named, breaks_unlock}
use Rattle.line.proofs.Seen.breaks.Goals as goal

pub returns-in-Unlock : goal.returns-in-Unlock
returns-in-Unlock c = λ given k locals on.
    breaks_unlock _ _ _ _ _ _ c.in-Unlock.is on (c.item.ensures locals ∙ ap (look _) (mutex_named _ _ _ c.in-Unlock.is)) (c.holder.ensures k)
