-- `put_out` is by the kind of the line. Assumes nothing.
use Rattle.line_text.proofs.Lines.{out_truth, out_other}
use Rattle.line_text.proofs.put_out.Goals as goal

pub returns-in-Assert : goal.returns-in-Assert
returns-in-Assert c = λ case f. out_truth case _ _ _ c.value_variable.ensures c.in-Assert.is c.put_equal.ensures

pub returns-in_default : goal.returns-in_default
returns-in_default c = λ case f. out_other case _ _ _ c.value_variable.ensures _ c.in_default.not-Assert c.in_default.not-Assume f.shape.globals (c.target_name-name.ensures c.args.k) (c.put_name.ensures case f)
