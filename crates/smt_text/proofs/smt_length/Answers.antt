-- `smt_length` measures the text of an accepted case. Assumes nothing.
use Rattle.std.proofs.lemmas.Result.{err_from_is_err_and}
use mathlib.Core.Path.{refl}
use Rattle.laws.proofs.Accepted.{accepted_of}
use Rattle.smt_text.proofs.Answer.{case_taken, table_handed, verdict_refused, length_refused, length_told}
use Rattle.smt_text.proofs.smt_length.Goals as goal

pub returns-in_err-size : goal.returns-in_err-size
returns-in_err-size c =
    let p = err_from_is_err_and c.from_residual.result c.from_residual.ensures.1 in
    rw (p.1, p.2) (length_refused _ (verdict_refused _ _ refl c.encode.ensures.value c.in_err-size.was))

pub invariant_of-script_length : goal.invariant_of-script_length
invariant_of-script_length c =
    record { accepted = accepted_of _ (case_taken _ _ refl c.encode.ensures.value c.in_ok-size.was) }

pub script_length-requires : goal.script_length-requires
script_length-requires c = table_handed _ _ refl c.encode.ensures.value c.encode.ensures.table_after c.in_ok-size.was

pub returns : goal.returns
returns c = length_told _ (case_taken _ _ refl c.encode.ensures.value c.in_ok-size.was) c.script_length.ensures
