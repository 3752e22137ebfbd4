-- `put_facts_before` puts nothing where there are no facts. Assumes nothing.
use Rattle.expressions.proofs.Beside.{before_none}
use Rattle.expressions.proofs.put_facts_before.Goals as goal

pub returns-else-has_facts : goal.returns-else-has_facts
returns-else-has_facts c = before_none _ _ _ c.has_facts.ensures c.if-has_facts.false c.args.w.now.near _
