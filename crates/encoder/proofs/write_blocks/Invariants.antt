-- `write_blocks` writes the 6s, a block at a time. Assumes nothing.
use Rattle.encoder.specs.Parts.{all_item_numbers}
use Rattle.encoder.proofs.Series.{Going}
use Rattle.encoder.proofs.Parts.{block_series}
use Rattle.encoder.proofs.write_blocks.Given as goal

abbrev pub invariant-loop-i : goal.invariant-loop-i
invariant-loop-i l = Going (block_series l.case.bytes.now l.last) l.i (all_item_numbers l.case.bytes.now) l.initial.table l.start l.table l.at
