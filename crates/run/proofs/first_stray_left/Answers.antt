-- `run::first_stray_left` meets its contract. The invariants: the threads that are left decide; no thread before this one strays.
-- Assumes nothing.
use lib.Seq.{get_or-take}
use Rattle.run.specs.RunState.{none}
use Rattle.run.proofs.Unrun.{all_more, all_end}
use Rattle.run.proofs.Looks.{on_more, on_found, on_end}
use borrow.Author.Rules.{rules}
use Rattle.run.proofs.first_stray_left.Goals as goal

pub loop-thread-preserved : goal.loop-thread-preserved
loop-thread-preserved c =
    all_more _ c.loop-thread.invariant (search rules) (search rules) (get_or-take c.threads-count.result c.args.threads c.loop-thread.thread-index none (search rules)) c.put_unrun.ensures

pub returns-in-Some : goal.returns-in-Some
returns-in-Some c =
    let same = get_or-take c.threads-count.result c.args.threads c.loop-thread-2.thread-index none (search rules) in
    record { found = on_found c.loop-thread-2.invariant (search rules) same c.stray_left.ensures c.in-Some.is; put = all_end _ c.loop-thread.invariant (search rules) }

pub loop-thread-2-preserved : goal.loop-thread-2-preserved
loop-thread-2-preserved c =
    let same = get_or-take c.threads-count.result c.args.threads c.loop-thread-2.thread-index none (search rules) in
    on_more c.loop-thread-2.invariant (search rules) same c.stray_left.ensures c.in_default.is

pub returns : goal.returns
returns c = record { found = on_end c.loop-thread-2.invariant (search rules); put = all_end _ c.loop-thread.invariant (search rules) }
