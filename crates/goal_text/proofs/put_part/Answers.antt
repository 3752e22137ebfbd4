-- `put_part` puts nothing for lines of other kinds. Assumes nothing.
use Rattle.goal_text.proofs.Heads.{part_other}
use Rattle.goal_text.proofs.put_part.Goals as goal

pub returns-in_default : goal.returns-in_default
returns-in_default c = λ case f. part_other case _ _ _ _ c.args.w.now.near _ c.in_default.not-Assert c.in_default.not-Unlock
