-- `value_check::asked_of` meets its contract. Assumes nothing.
use Rattle.std.proofs.Common.{ap, not}
use borrow.Author.Tests.{not-true}
use Rattle.value_check.proofs.asked_of.Goals as goal

pub returns-then-not-run : goal.returns-then-not-run
returns-then-not-run c =
    let unrun = not-true c.args.run (ap not c.if-not-run.true) in
    λ k reads _. rw unrun (c.asked_unrun.ensures k reads _)
