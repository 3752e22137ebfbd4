-- `filler::late_in` meets its contract. The invariant: the lines that are left decide. Assumes nothing.
use Rattle.laws.proofs.Following.{lines_less}
use Rattle.filler.proofs.Lateness.{looking_none, looking_start, looking_found, looking_more, looking_end}
use Rattle.filler.proofs.late_in.Goals as goal

pub returns-then-k-eq0 : goal.returns-then-k-eq0
returns-then-k-eq0 c = looking_none _ c.args.numbers.now c.args.case.now.accepted c.requires c.if-k-eq0.true

pub loop-at-init : goal.loop-at-init
loop-at-init c = looking_start _ _ c.args.case.now.accepted c.requires c.if-k-eq0.false c.next_of-at.ensures

pub returns-then-is_late : goal.returns-then-is_late
returns-then-is_late c = looking_found _ _ c.args.case.now.accepted c.requires c.loop-at.invariant c.loop-at-test.true c.kind_of.ensures c.block_of-first.ensures c.block_of-block.ensures c.is_late.ensures c.if-is_late.true

pub loop-at-smaller : goal.loop-at-smaller
loop-at-smaller c = lines_less _ c.args.case.now.accepted 0 _ c.loop-at-test.true c.loop-at.invariant.low _ c.next_of-at-in-loop-at.ensures

pub loop-at-preserved : goal.loop-at-preserved
loop-at-preserved c = looking_more _ _ c.args.case.now.accepted c.requires c.loop-at.invariant c.loop-at-test.true c.kind_of.ensures c.block_of-first.ensures c.block_of-block.ensures c.is_late.ensures c.if-is_late.false c.next_of-at-in-loop-at.ensures

pub returns : goal.returns
returns c = looking_end _ _ c.args.case.now.accepted c.requires c.loop-at.invariant c.loop-at-test.false
