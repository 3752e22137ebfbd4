-- `put_facts_behind` closes nothing where there are no facts. Assumes nothing.
use Rattle.expressions.proofs.Beside.{behind_none}
use Rattle.expressions.proofs.put_facts_behind.Goals as goal

pub returns-else-has_facts : goal.returns-else-has_facts
returns-else-has_facts c = behind_none _ _ _ c.has_facts.ensures c.if-has_facts.false c.args.w.now.near _
