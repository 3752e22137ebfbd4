-- `put_assertions` puts the rows one after the other. Assumes nothing.
use Rattle.smt_text.proofs.Assertions.{row_handed, asserting_start, asserting_more, asserting_end}
use Rattle.smt_text.proofs.put_assertions.Goals as goal

pub loop-j-init : goal.loop-j-init
loop-j-init c = asserting_start c.args.w.now.near

pub put_assertion-requires : goal.put_assertion-requires
put_assertion-requires c = row_handed c.args.case.now.accepted c.requires (c.previous_copies-previous.ensures _ c.args.case.now.accepted c.requires) c.loop-j-test.true c.row.ensures

pub loop-j-preserved : goal.loop-j-preserved
loop-j-preserved c = asserting_more c.requires c.loop-j.invariant c.loop-j-test.true c.row.ensures c.put_assertion.ensures

pub returns : goal.returns
returns c = asserting_end c.requires c.loop-j.invariant c.loop-j-test.false
