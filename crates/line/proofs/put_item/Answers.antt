-- `line::put_item` meets its contract. Assumes nothing.
use Rattle.line.proofs.Memories.{put_of_local, put_of_item, put_beyond}
use Rattle.line.proofs.put_item.Goals as goal

pub returns-then-name-lt-LOCALS : goal.returns-then-name-lt-LOCALS
returns-then-name-lt-LOCALS c = put_of_local c.args.items.now c.args.count c.args.value _ c.if-name-lt-LOCALS.true

pub returns-then-g-count : goal.returns-then-g-count
returns-then-g-count c = put_of_item _ _ _ _ c.if-name-lt-LOCALS.false c.if-g-count.true

pub returns-else-g-count : goal.returns-else-g-count
returns-else-g-count c = put_beyond c.args.items.now c.args.count c.args.value _ c.if-name-lt-LOCALS.false c.if-g-count.false
