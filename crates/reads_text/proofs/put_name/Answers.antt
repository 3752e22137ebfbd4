-- `put_name` is by what the name is of. Assumes nothing.
use Rattle.reads_text.proofs.Names.{name_local, name_item, name_none}
use Rattle.reads_text.proofs.put_name.Goals as goal

pub returns-then-name-lt-LOCALS : goal.returns-then-name-lt-LOCALS
returns-then-name-lt-LOCALS c = λ case f. name_local case _ _ _ _ _ c.if-name-lt-LOCALS.true c.local_with.ensures (c.put_same.ensures case f.sources)

pub returns-then-g-frame : goal.returns-then-g-frame
returns-then-g-frame c = λ case f. name_item case _ _ _ _ _ f.shape c.if-name-lt-LOCALS.false c.if-g-frame.true (c.put_item.ensures case f)

pub returns : goal.returns
returns c = λ case f. name_none case _ _ _ _ _ f.shape c.if-name-lt-LOCALS.false c.if-g-frame.false c.put_equal.ensures
