-- `run::run_case` meets its contract. Assumes nothing.
use Rattle.run.proofs.Starts.{run_replies, run_traced}
use Rattle.run.proofs.Ends.{comes, traced_at_the_end}
use Rattle.run.proofs.run_case.Goals as goal

pub returns : goal.returns
returns c =
    record {
      replies = run_replies _ c.args.case.now.accepted c.args.given.now c.args.lengths.now _ _ c.first_threads-first.ensures c.first_shared-shared.ensures _
          (comes _ _ _ _ _ _ _ _ _ c.lend-all.ensures _ _ c.look_left-last.ensures.looks c.end_of.ensures);
      traced = λ few. run_traced _ c.args.case.now.accepted c.args.given.now c.args.lengths.now _ _ c.first_threads-first.ensures c.first_shared-shared.ensures _ _
          (traced_at_the_end _ _ _ _ _ _ _ _ _ c.lend-all.ensures _ c.look_left-last.ensures.put few);
    }
