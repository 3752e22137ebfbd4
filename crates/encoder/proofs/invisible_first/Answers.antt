-- `invisible_first` asks the first line's kind. Assumes nothing.
use mathlib.Core.Path.{◌∙◌}
use Rattle.encoder.proofs.Counts.{no_first, first_kind}
use Rattle.encoder.proofs.invisible_first.Goals as goal

pub returns-else-k-ne0 : goal.returns-else-k-ne0
returns-else-k-ne0 c = rw c.if-k-ne0.false (no_first _ _ c.first_of-k.ensures c.if-k-ne0.false)

pub returns-then-k-ne0 : goal.returns-then-k-ne0
returns-then-k-ne0 c = c.stays.ensures ∙ first_kind _ _ c.first_of-k.ensures c.args.case.now.accepted c.requires c.if-k-ne0.true c.kind_of.ensures
