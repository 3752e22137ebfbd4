-- `part_count` counts the parts, a record at a time. Assumes nothing.
use mathlib.Core.Path.{ap}
use borrow.Author.Rules.{rules}
use native.Mathlib.Omega.{arith}
use Rattle.model.specs.Word.{bit}
use Rattle.goal_text.proofs.Parts.{numbering_start, numbering_more, numbering_end}
use Rattle.goal_text.proofs.part_count.Goals as goal
use Rattle.goal_text.proofs.part_count.Goals.{then-has_part, else-has_part}

pub loop-k-init : goal.loop-k-init
loop-k-init c = numbering_start _

pub overflow_add-n : goal.overflow_add-n
overflow_add-n c = omega (arith, c.loop-k.invariant.small, c.loop-k-test.true, c.records-k-end.ensures, c.args.case.now.accepted.few_records)

pub loop-k-preserved : goal.loop-k-preserved
loop-k-preserved c = elim c.if-has_part.branch [
  | then-has_part w ↦ numbering_more c.loop-k.invariant (search rules) c.kind_of.ensures c.has_part.ensures (omega (arith, w.n-is, ap bit w.if-has_part.true))
  | else-has_part w ↦ numbering_more c.loop-k.invariant (search rules) c.kind_of.ensures c.has_part.ensures (omega (arith, w.n-is, ap bit w.if-has_part.false))
]

pub returns : goal.returns
returns c = numbering_end c.loop-k.invariant c.args.case.now.accepted (search rules)
