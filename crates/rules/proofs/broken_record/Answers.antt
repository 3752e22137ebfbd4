use mathlib.Core.Path.{sym, ap, ◌∙◌}
use Rattle.model.specs.Lists.{lowest_failing}
use Rattle.case_file.proofs.LoopTests.{range_start, range_more}
use Rattle.rules.proofs.LowestFailing.{lowest_at_end, lowest_found, lowest_goes_on, some_lowest, none_lowest}
use Rattle.rules.proofs.broken_record.Goals as goal

pub loop-k-init : goal.loop-k-init
loop-k-init c = range_start

pub returns-then-not-rule_ok : goal.returns-then-not-rule_ok
returns-then-not-rule_ok c =
    some_lowest
    (sym (ap (lowest_failing _ 1) c.records-most.ensures) ∙ sym c.loop-k.invariant.left ∙ lowest_found _ _ _ c.loop-k-test.true (sym c.if-not-rule_ok.ensures))
    c.loop-k.invariant.counted

pub loop-k-preserved : goal.loop-k-preserved
loop-k-preserved c = range_more c.loop-k.invariant (lowest_goes_on _ _ _ c.loop-k-test.true (sym c.if-not-rule_ok.ensures))

pub returns : goal.returns
returns c =
    none_lowest (sym (ap (lowest_failing _ 1) c.records-most.ensures) ∙ sym c.loop-k.invariant.left ∙ lowest_at_end _ _ _ c.loop-k-test.false)
