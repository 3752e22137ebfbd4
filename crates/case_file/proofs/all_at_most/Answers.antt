use borrow.Author.Rules.{rules}
use Rattle.case_file.proofs.RangeTests.{all_of_range}
use Rattle.case_file.proofs.all_at_most.Goals as goal

pub returns : goal.returns
returns c = all_of_range _ _ (λ x b q called. search rules) c.all.ensures.ran
