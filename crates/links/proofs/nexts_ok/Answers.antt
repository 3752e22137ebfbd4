use borrow.Author.Rules.{rules}
use mathlib.Core.Path.{ap, ◌∙◌}
use native.Mathlib.Omega.{arith}
use Rattle.links.specs.Links.{nexts_in}
use Rattle.case_file.proofs.RangeTests.{all_of_range}
use Rattle.links.proofs.nexts_ok.Goals as goal

pub returns : goal.returns
returns c = all_of_range _ _ (λ x b q called. search rules) c.all.ensures.ran ∙ ap (nexts_in c.args.case.now) (omega (arith, c.records-most.ensures))
