-- `schedule_check::put_thread` meets its contract. The invariant: the lines that are left decide. Assumes nothing.
use native.Mathlib.Omega.{arith}
use Rattle.schedule_check.proofs.InputLoops.{putting_start, putting_few, putting_more, putting_end, next_is_input, next_is_other}
use Rattle.schedule_check.proofs.put_thread.Goals as goal
use Rattle.schedule_check.proofs.put_thread.Goals.{in-Input, in_default}

pub loop-k-init : goal.loop-k-init
loop-k-init c = putting_start c.args.case.now.accepted c.requires _ _ c.first_of-k.ensures

pub overflow_add-lines : goal.overflow_add-lines
overflow_add-lines c = record { fits = omega (arith, putting_few c.args.case.now.accepted c.requires _ _ c.loop-k.invariant) }

pub loop-k-preserved : goal.loop-k-preserved
loop-k-preserved c =
    putting_more c.args.case.now.accepted c.requires _ _ c.loop-k.invariant c.loop-k-test.true c.next_of-k.ensures c.kind_of.ensures
    (elim c.match-kind_of.branch [
      | in-Input w ↦ next_is_input _ _ _ _ _ _ w.in-Input.is w.at.ensures w.given-is w.used-is
      | in_default w ↦ next_is_other _ _ _ _ _ w.in_default.not-Input w.given-is w.used-is
    ])

pub returns : goal.returns
returns c = putting_end c.args.case.now.accepted c.requires _ _ c.loop-k.invariant c.loop-k-test.false
