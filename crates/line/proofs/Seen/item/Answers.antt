-- `line::Seen::item` meets its contract. Assumes nothing.
use Rattle.line.proofs.Memories.{look_item, look_no_item}
use Rattle.line.proofs.Seen.item.Goals as goal

pub returns-then-g-self : goal.returns-then-g-self
returns-then-g-self c locals = look_item locals _ _ _ c.if-g-self.true

pub returns-else-g-self : goal.returns-else-g-self
returns-else-g-self c locals = look_no_item locals c.args.self.now.items.now _ _ c.if-g-self.false
