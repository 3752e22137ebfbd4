-- `put` copies the bytes where they fit. Assumes nothing.
use mathlib.Core.Path.{refl}
use borrow.Author.Rules.{rules}
use Rattle.spell.proofs.Places.{copied_in, spelt_beyond}
use Rattle.spell.proofs.Writer.put.Goals as goal
use Rattle.spell.proofs.Writer.put.Goals.{then-end-self, else-end-self}

pub returns : goal.returns
returns c = elim c.if-end-self.branch [
  | then-end-self w ↦ rw w.self-is (record { spelt = copied_in (search rules) c.saturating_add-end.ensures w.if-end-self.true w.copy_from_slice.ensures.len w.copy_from_slice.ensures.after; same_slice = refl })
  | else-end-self w ↦ rw w.self-is (record { spelt = spelt_beyond c.saturating_add-end.ensures w.if-end-self.false; same_slice = refl })
]
