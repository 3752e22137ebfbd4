-- `filler::fill_run` meets its contract. Assumes nothing.
use Rattle.std.specs.Prelude.{Ok}
use Rattle.std.proofs.lemmas.Result.{err_from_is_err_and}
use mathlib.Core.Path.{sym, refl, ap, ◌∙◌}
use lib.Seq.{length-take-le}
use Rattle.schedule_check.proofs.Refusals.{records_have_places, enough_numbers}
use Rattle.filler.proofs.Calls.{run_refused, run_harmless, run_late, run_fills}
use Rattle.filler.proofs.fill_run.Goals as goal

pub slice_bounds-lengths-end : goal.slice_bounds-lengths-end
slice_bounds-lengths-end c = sym (length-take-le _ _ (enough_numbers _ _ _ _ c.requires.looked refl c.switches.ensures))

pub run_case-ended-requires : goal.run_case-ended-requires
run_case-ended-requires c = records_have_places _ _ _ _ c.args.case.now.accepted c.requires.looked

pub returns-in_err-ended : goal.returns-in_err-ended
returns-in_err-ended c =
    let p = err_from_is_err_and c.from_residual.result c.from_residual.ensures.1 in
    rw (p.1, p.2) (run_refused c.args.case.now.accepted c.requires c.switches.ensures c.run_case-ended.ensures c.in_err-ended.was)

pub returns-in_default : goal.returns-in_default
returns-in_default c = run_harmless c.args.case.now.accepted c.requires c.switches.ensures c.run_case-ended.ensures c.in_ok-ended.was c.in_default.not-Violated

pub returns-in-Some : goal.returns-in-Some
returns-in-Some c = run_late c.args.case.now.accepted c.requires c.switches.ensures c.run_case-ended.ensures (c.in_ok-ended.was ∙ ap Ok c.in-Violated.is) c.first_late.ensures c.in-Some.is

pub returns : goal.returns
returns c = run_fills c.args.case.now.accepted c.requires c.switches.ensures c.run_case-ended.ensures (c.in_ok-ended.was ∙ ap Ok c.in-Violated.is) c.first_late.ensures c.in_default-first_late.is c.variables-size.ensures.is
