-- `put_goal` puts the parts, `false`, and the parentheses. Assumes nothing.
use Rattle.goal_text.proofs.GoalText.{goal_spelt}
use Rattle.goal_text.proofs.put_goal.Goals as goal

pub returns : goal.returns
returns c = goal_spelt _ c.args.tabled.now.case.accepted c.part_count.ensures c.put_heads.ensures c.put.ensures c.put_closing.ensures
