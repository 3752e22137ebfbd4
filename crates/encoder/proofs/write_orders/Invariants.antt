-- `write_orders` writes the order rows, a thread at a time. Assumes nothing.
use Rattle.encoder.specs.Parts.{all_order_numbers}
use Rattle.encoder.proofs.Series.{Going}
use Rattle.encoder.proofs.Parts.{order_series}
use Rattle.encoder.proofs.write_orders.Given as goal

abbrev pub invariant-loop-t : goal.invariant-loop-t
invariant-loop-t l = Going (order_series l.case.bytes.now l.threads) l.t (all_order_numbers l.case.bytes.now) l.initial.table 0 l.table l.at
