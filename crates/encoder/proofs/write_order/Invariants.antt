-- `write_order` writes a thread's order rows: what is left of its chain is what is left to write. Assumes nothing.
use lib.ListN.{length}
use Rattle.model.specs.CaseFile.{case_of}
use Rattle.laws.specs.Accepted.{lines_from}
use Rattle.rows.specs.Rows.{Nearest}
use Rattle.encoder.specs.Parts.{order_numbers}
use Rattle.encoder.proofs.Walking.{orders, Walking}
use Rattle.encoder.proofs.write_order.Given as goal

abbrev pub invariant-loop-k : goal.invariant-loop-k
invariant-loop-k l = Walking l.case.bytes.now l.t (orders (case_of l.case.bytes.now) l.t) (Nearest l.previous) l.k (order_numbers l.case.bytes.now l.t) l.initial.table l.start l.table l.at

abbrev pub decreases-loop-k : goal.decreases-loop-k
decreases-loop-k l = length (lines_from l.case.bytes.now l.t l.k)
