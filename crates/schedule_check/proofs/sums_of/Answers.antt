-- `schedule_check::sums_of` meets its contract. The invariant: the sums so far and the lengths that are left. Assumes nothing.
use mathlib.Core.Path.{refl}
use native.Mathlib.Omega.{arith}
use Rattle.schedule_check.proofs.Sums.{adding_more, adding_end, belongs}
use Rattle.schedule_check.proofs.sums_of.Goals as goal

pub loop-i-preserved : goal.loop-i-preserved
loop-i-preserved c =
    adding_more _ _ _ _ c.loop-i.invariant _ _ _ c.loop-i-test.true c.threads-threads.ensures refl (belongs _ c.args.case.now.accepted c.loop-i.i _ c.threads-threads.ensures) refl
    (omega (arith, c.type_inv.lengths c.loop-i.i))

pub returns : goal.returns
returns c = λ t h. adding_end _ _ _ _ c.loop-i.invariant c.loop-i-test.false t h
