-- `put_unrun_or` puts the words around the first part. Assumes nothing.
use Rattle.spell.proofs.Spelling.{puts_then}
use Rattle.smt_parts.proofs.put_unrun_or.Goals as goal

pub returns : goal.returns
returns c = λ case s. puts_then c.put.ensures (puts_then (c.put_not_run.ensures case s) c.put-2.ensures)
