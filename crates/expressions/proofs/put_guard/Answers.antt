-- `put_guard` says that the local is not zero. Assumes nothing.
use native.Mathlib.Omega.{arith}
use Rattle.expressions.proofs.Guards.{guard_not_zero}
use Rattle.expressions.proofs.put_guard.Goals as goal

pub returns-in-0-to-16 : goal.returns-in-0-to-16
returns-in-0-to-16 c = λ l e. guard_not_zero l _ c.local_with-x.ensures e (omega arith) c.put.ensures c.put_equal.ensures c.put-in-0-to-16.ensures
