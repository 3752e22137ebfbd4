-- `replayer::write_items` meets its contract. Assumes nothing.
use mathlib.Core.Path.{sym}
use lib.Seq.{length-take-le}
use Rattle.replayer.proofs.Calls.{first_fit}
use borrow.Author.Rules.{rules}
use Rattle.replayer.proofs.write_items.Goals as goal

pub slice_bounds-write_over-end : goal.slice_bounds-write_over-end
slice_bounds-write_over-end c = sym (length-take-le _ _ (search rules))

pub write_over-requires : goal.write_over-requires
write_over-requires c = first_fit _ _ _ c.requires (search rules)
