-- `smt_text` writes the text of an accepted case. Assumes nothing.
use Rattle.std.proofs.lemmas.Result.{err_from_is_err_and}
use mathlib.Core.Path.{refl}
use Rattle.laws.proofs.Accepted.{accepted_of}
use Rattle.smt_text.proofs.Answer.{case_taken, table_handed, verdict_refused, text_refused}
use Rattle.smt_text.proofs.smt_text.Goals as goal

pub returns-in_err-size-clause-value : goal.returns-in_err-size-clause-value
returns-in_err-size-clause-value c =
    let p = err_from_is_err_and c.from_residual.result c.from_residual.ensures.1 in
    rw (p.1, p.2) (text_refused _ (verdict_refused _ _ refl c.encode.ensures.value c.in_err-size.was) _).answer

pub returns-in_err-size-clause-text_after : goal.returns-in_err-size-clause-text_after
returns-in_err-size-clause-text_after c =
    (text_refused _ (verdict_refused _ _ refl c.encode.ensures.value c.in_err-size.was) _).slice

pub invariant_of-put_script : goal.invariant_of-put_script
invariant_of-put_script c =
    record { accepted = accepted_of _ (case_taken _ _ refl c.encode.ensures.value c.in_ok-size.was) }

pub put_script-requires : goal.put_script-requires
put_script-requires c = table_handed _ _ refl c.encode.ensures.value c.encode.ensures.table_after c.in_ok-size.was
