-- `run::stray_left` meets its contract. The invariant: the lines that are left decide. Assumes nothing.
use Rattle.run.proofs.Looks.{looking_found, looking_more, looking_end}
use Rattle.run.proofs.stray_left.Goals as goal

pub returns-then-strays : goal.returns-then-strays
returns-then-strays c = looking_found c.args.case.now.accepted c.loop-at.invariant c.loop-at-test.true c.kind_of.ensures c.strays.ensures c.if-strays.true

pub loop-at-preserved : goal.loop-at-preserved
loop-at-preserved c = looking_more c.args.case.now.accepted c.loop-at.invariant c.loop-at-test.true c.kind_of.ensures c.strays.ensures c.if-strays.false c.next_of-at.ensures

pub returns : goal.returns
returns c = looking_end c.args.case.now.accepted c.loop-at.invariant c.loop-at-test.false
