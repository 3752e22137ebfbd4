use Rattle.model.specs.Lists.{lowest_failing}
use Rattle.model.specs.Accept.{rule_ok}
use Rattle.case_file.proofs.LoopTests.{RangeLeft}
use Rattle.rules.proofs.broken_record.Given as goal

abbrev pub invariant-loop-k : goal.invariant-loop-k
invariant-loop-k l = RangeLeft (lowest_failing (rule_ok l.case)) l.most l.k
