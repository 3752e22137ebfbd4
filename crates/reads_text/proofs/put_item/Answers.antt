-- `put_item` is by whether there is a copy. Assumes nothing.
use Rattle.reads_text.proofs.Names.{item_none, item_some}
use Rattle.reads_text.proofs.put_item.Goals as goal

pub returns-then-p-eq0 : goal.returns-then-p-eq0
returns-then-p-eq0 c = λ case f. item_none case _ _ _ _ _ c.if-p-eq0.true (c.put_before.ensures case f)

pub returns : goal.returns
returns c = λ case f. item_some case _ _ _ _ _ c.if-p-eq0.false c.block_variable.ensures c.block_variable-2.ensures c.value_variable.ensures c.put.ensures c.put_equal.ensures c.put-2.ensures (c.put_same.ensures case f.sources) c.put-3.ensures (c.put_before-2.ensures case f) c.put-4.ensures
