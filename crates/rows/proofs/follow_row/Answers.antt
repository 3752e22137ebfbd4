-- `follow_row` makes the 1 or the 2. Assumes nothing.
use mathlib.Core.Path.{◌∙◌}
use Rattle.rows.proofs.Made.{follow_last, follow_next}
use Rattle.rows.proofs.follow_row.Goals as goal

pub returns-then-link-eq0 : goal.returns-then-link-eq0
returns-then-link-eq0 c = λ case earlier l ls s en. c.row.ensures ∙ follow_last _ case earlier l ls _ c.if-link-eq0.true s en

pub returns-else-link-eq0 : goal.returns-else-link-eq0
returns-else-link-eq0 c = λ case earlier l ls s en. c.row-else-link-eq0.ensures ∙ follow_next _ case earlier l ls c.if-link-eq0.false s
