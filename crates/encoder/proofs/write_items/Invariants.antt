-- `write_items` writes the 6s of a block, an item at a time. Assumes nothing.
use Rattle.encoder.specs.Parts.{item_numbers}
use Rattle.encoder.proofs.Series.{Going}
use Rattle.encoder.proofs.Parts.{item_series}
use Rattle.encoder.proofs.write_items.Given as goal

abbrev pub invariant-loop-g : goal.invariant-loop-g
invariant-loop-g l = Going (item_series l.case.bytes.now l.i l.items) l.g (item_numbers l.case.bytes.now l.i) l.initial.table l.start l.table l.at
