-- `put_declarations` puts a line after the other. Assumes nothing.
use Rattle.spell.proofs.Spelling.{left_start}
use Rattle.smt_parts.proofs.Declarations.{all_declarations, declaring_more, declaring_end}
use Rattle.smt_parts.proofs.put_declarations.Goals as goal

pub loop-k-init : goal.loop-k-init
loop-k-init c = left_start c.args.w.now.near (all_declarations _)

pub loop-k-preserved : goal.loop-k-preserved
loop-k-preserved c = declaring_more c.loop-k.invariant c.loop-k-test.true c.put_declaration.ensures

pub returns : goal.returns
returns c = declaring_end c.loop-k.invariant c.loop-k-test.false
