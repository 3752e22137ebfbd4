-- `filler::fill_accepted` meets its contract. Assumes nothing.
use Rattle.std.proofs.lemmas.Result.{err_from_is_err_and}
use mathlib.Core.Path.{sym}
use lib.Seq.{length-take-le}
use Rattle.filler.proofs.Calls.{slice_ready, answers_10, answers_looked, answers_run}
use borrow.Author.Rules.{rules}
use Rattle.filler.proofs.fill_accepted.Goals as goal

pub returns-then-assignment-size : goal.returns-then-assignment-size
returns-then-assignment-size c = answers_10 _ _ _ c.requires c.variables-size.ensures.is c.if-assignment-size.true

pub refusal_of-requires : goal.refusal_of-requires
refusal_of-requires c = let ok = c.args.case.now.accepted in search rules

pub returns-in_err-refusal_of : goal.returns-in_err-refusal_of
returns-in_err-refusal_of c =
    let p = err_from_is_err_and c.from_residual.result c.from_residual.ensures.1 in
    rw (p.1, p.2) (answers_looked _ _ _ c.requires c.variables-size.ensures.is c.if-assignment-size.false c.refusal_of.ensures c.in_err-refusal_of.was)

pub slice_bounds-fill_over-end : goal.slice_bounds-fill_over-end
slice_bounds-fill_over-end c = sym c.refusal_of.ensures.places

pub slice_bounds-numbers-end : goal.slice_bounds-numbers-end
slice_bounds-numbers-end c = c.variables-size.ensures.most

pub slice_bounds-fill_over-end-2 : goal.slice_bounds-fill_over-end-2
slice_bounds-fill_over-end-2 c = sym (length-take-le _ _ c.variables-size.ensures.most)

pub fill_over-requires : goal.fill_over-requires
fill_over-requires c =
    slice_ready _ _ _ _ _ _ (c.args.case.now.accepted) c.refusal_of.ensures c.in_ok-refusal_of.was c.variables-size.ensures c.if-assignment-size.false

pub returns : goal.returns
returns c = answers_run _ _ _ c.requires c.variables-size.ensures.is c.if-assignment-size.false c.refusal_of.ensures c.in_ok-refusal_of.was c.fill_over.ensures
