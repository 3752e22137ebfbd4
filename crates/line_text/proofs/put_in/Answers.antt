-- `put_in` is by the kind of the line. Assumes nothing.
use Rattle.line_text.proofs.Lines.{in_expression, in_truth, in_load, in_input, in_lock, in_unlock}
use Rattle.line_text.proofs.put_in.Goals as goal

pub returns-in-Compute : goal.returns-in-Compute
returns-in-Compute c = λ case f. in_expression case _ _ _ _ c.value_variable.ensures c.operand-x.ensures c.operand-y.ensures c.in-Compute.is (c.put_is_expression.ensures case f.sources)

pub returns-in-Load : goal.returns-in-Load
returns-in-Load c = λ case f. in_load case _ _ _ _ c.value_variable.ensures c.in-Load.is (c.operand_a.ensures c.args.k) (c.put_name.ensures case f)

pub returns-in-Input : goal.returns-in-Input
returns-in-Input c = λ case f. in_input case _ _ _ _ c.value_variable.ensures c.in-Input.is c.put.ensures

pub returns-in-Assert : goal.returns-in-Assert
returns-in-Assert c = λ case f. in_truth case _ _ _ _ c.value_variable.ensures c.operand-x.ensures c.operand-y.ensures c.in-Assert.is (c.put_is_truth.ensures case f.sources)

pub returns-in-Lock : goal.returns-in-Lock
returns-in-Lock c = λ case f. in_lock case _ _ _ _ c.value_variable.ensures c.in-Lock.is (c.holder.ensures c.args.k) c.put_equal.ensures

pub returns-in-Unlock : goal.returns-in-Unlock
returns-in-Unlock c = λ case f. in_unlock case _ _ _ _ c.value_variable.ensures c.in-Unlock.is c.put_equal-in-Unlock.ensures
