use borrow.Author.Rules.{rules}
use native.Mathlib.Omega.{arith}
use Rattle.links.proofs.ChainWalks.{following_starts, few_walked, follow_on, fails_6, fails_7, passes_7}
use Rattle.links.proofs.check_chains.Goals as goal

pub loop-t-init : goal.loop-t-init
loop-t-init c = search following_starts

pub returns-in_err-n : goal.returns-in_err-n
returns-in_err-n c = let six = fails_6 c.loop-t.invariant (omega (arith, c.loop-t-test.true, c.threads-threads.ensures)) c.in_err-n.ensures in search rules

pub overflow_add-lines : goal.overflow_add-lines
overflow_add-lines c = omega (arith, few_walked c.loop-t.invariant c.in_ok-n.ensures)

pub loop-t-preserved : goal.loop-t-preserved
loop-t-preserved c = follow_on c.loop-t.invariant (search rules) (search rules)

pub returns-then-lines-most : goal.returns-then-lines-most
returns-then-lines-most c = fails_7 c.loop-t.invariant (search rules) (search rules)

pub returns : goal.returns
returns c = passes_7 c.loop-t.invariant (search rules) (search rules) c.unless.ensures
