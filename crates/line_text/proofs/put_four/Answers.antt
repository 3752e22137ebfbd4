-- `put_four` puts its three parts in their words. Assumes nothing.
use Rattle.line_text.proofs.Lines.{four_spelt}
use Rattle.line_text.proofs.put_four.Goals as goal

pub returns : goal.returns
returns c = λ case f found. four_spelt case _ _ found _ _ _ _ c.value_variable.ensures c.unrun_value.ensures c.put.ensures (c.put_not_run.ensures case f.shape) c.put-2.ensures c.put_equal.ensures c.put-3.ensures (c.put_line.ensures case f) c.put-4.ensures
