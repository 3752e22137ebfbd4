-- `write_values` writes a thread's 4s and 5s and takes each line as the latest copy of its target. Assumes nothing.
use lib.ListN.{length}
use Rattle.model.specs.CaseFile.{global_count, case_of}
use Rattle.laws.specs.Accepted.{lines_from}
use Rattle.copies.specs.Held.{HeldAfter}
use Rattle.encoder.specs.Parts.{value_numbers}
use Rattle.encoder.proofs.Walking.{values, Walking}
use Rattle.encoder.proofs.write_values.Given as goal

abbrev pub invariant-loop-k : goal.invariant-loop-k
invariant-loop-k l = Walking l.case.bytes.now l.t (values (case_of l.case.bytes.now)) (HeldAfter (global_count l.case.bytes.now) l.held) l.k (value_numbers l.case.bytes.now l.t) l.initial.table l.start l.table l.at

abbrev pub decreases-loop-k : goal.decreases-loop-k
decreases-loop-k l = length (lines_from l.case.bytes.now l.t l.k)
