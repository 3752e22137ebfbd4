-- `run::put_unrun` meets its contract. The invariant: the lines that are left decide. Assumes nothing.
use mathlib.Core.Path.{sym, ◌∙◌}
use borrow.Author.Tests.{eqb-true}
use Rattle.run.proofs.Unrun.{leaving_end, nothing_put}
use Rattle.run.proofs.put_unrun.Goals as goal

pub returns-then-is_empty : goal.returns-then-is_empty
returns-then-is_empty c = nothing_put c.args.case.now.bytes.now c.args.k _ (eqb-true _ _ (sym c.is_empty.ensures ∙ c.if-is_empty.true))

pub returns : goal.returns
returns c = leaving_end c.args.case.now.accepted _ c.loop-at.invariant c.loop-at-test.false
