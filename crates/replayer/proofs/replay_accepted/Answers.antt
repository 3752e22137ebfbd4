-- `replayer::replay_accepted` meets its contract. Assumes nothing.
use Rattle.std.proofs.lemmas.Result.{err_from_is_err_and}
use mathlib.Core.Path.{sym}
use native.Mathlib.Omega.{arith}
use lib.Seq.{length-take-le}
use Rattle.schedule_check.proofs.Refusals.{records_have_places, enough_numbers}
use Rattle.replayer.proofs.Calls.{answers_10, answers_looked, answers_run}
use borrow.Author.Rules.{rules}
use Rattle.replayer.proofs.replay_accepted.Goals as goal

pub returns-then-items-written : goal.returns-then-items-written
returns-then-items-written c = answers_10 _ _ _ c.requires c.items-written.ensures.is c.if-items-written.true

pub refusal_of-requires : goal.refusal_of-requires
refusal_of-requires c = let ok = c.args.case.now.accepted in search rules

pub returns-in_err-refusal_of : goal.returns-in_err-refusal_of
returns-in_err-refusal_of c =
    let p = err_from_is_err_and c.from_residual.result c.from_residual.ensures.1 in
    rw (p.1, p.2) (answers_looked _ _ _ c.requires c.items-written.ensures.is c.if-items-written.false c.refusal_of.ensures c.in_err-refusal_of.was)

pub slice_bounds-lengths-end : goal.slice_bounds-lengths-end
slice_bounds-lengths-end c = sym (length-take-le _ _ (enough_numbers _ _ _ _ c.refusal_of.ensures c.in_ok-refusal_of.was c.switches.ensures))

pub slice_bounds-replay_blocks-end : goal.slice_bounds-replay_blocks-end
slice_bounds-replay_blocks-end c = sym c.refusal_of.ensures.places

pub replay_blocks-requires : goal.replay_blocks-requires
replay_blocks-requires c =
    record {
      all_given = records_have_places _ _ _ _ c.args.case.now.accepted c.refusal_of.ensures;
      room = omega (arith, c.if-items-written.false, c.items-written.ensures.is);
    }

pub returns : goal.returns
returns c = answers_run _ _ _ c.requires c.items-written.ensures.is c.if-items-written.false c.refusal_of.ensures c.switches.ensures c.in_ok-refusal_of.was c.replay_blocks.ensures
