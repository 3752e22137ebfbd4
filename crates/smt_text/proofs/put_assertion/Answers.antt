-- `put_assertion` puts the formula between its words. Assumes nothing.
use Rattle.smt_text.proofs.Assertions.{assertion_spelt}
use Rattle.smt_text.proofs.put_assertion.Goals as goal

pub returns : goal.returns
returns c = assertion_spelt _ c.put.ensures c.put_row.ensures c.put-2.ensures
