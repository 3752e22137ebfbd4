-- `put_expression` is by the operation. Assumes nothing.
use native.Mathlib.Omega.{arith}
use Rattle.expressions.proofs.Expressions.{expression_apply, expression_bit}
use Rattle.expressions.proofs.put_expression.Goals as goal

pub returns-in-1-to-4 : goal.returns-in-1-to-4
returns-in-1-to-4 c = expression_apply _ _ _ (λ e. omega (arith, e)) (omega arith) c.put_operation.ensures c.put_two.ensures

pub returns-in_default : goal.returns-in_default
returns-in_default c = expression_bit _ _ _ (omega arith) c.put.ensures c.put_comparison.ensures c.put-in_default.ensures
