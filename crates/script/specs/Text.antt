-- The text of a case, and the calls: document 02, One. Calls on a case make checks 1 to 9 first; "A short slice meets refusal 10."
-- Assumes nothing.
use Rattle.std.specs.Prelude.{ℕ, List, leb, length, Result, Ok, Err}
use Rattle.model.specs.Lists.{unless}
use Rattle.model.specs.CaseFile.{case_of}
use Rattle.model.specs.declared.Refusal.{Refusal}
use Rattle.model.specs.declared.Refusal.TheVariants.{Short}
use Rattle.model.specs.Refusals.{refusal_number, refusal_place}
use Rattle.model.specs.Accept.{verdict}
use Rattle.model.specs.Answers.{on_case, after_answer}
use Rattle.smt.specs.Spelling.{script_text}
use Rattle.script.specs.Assertions.{script_of}
use Rattle.script.specs.declared.TextNumbers.{TextNumbers}

unfoldable pub smt_text : List ℕ → List ℕ
smt_text bytes = script_text (script_of (case_of bytes))

-- No text of an accepted case is longer than this: docs/SMT-TEXT.md.
abbrev pub most_text_bytes : ℕ
most_text_bytes = 2000000

-- The call that says how long the text is, and the call that writes it.
unfoldable pub measured : List ℕ → Result ℕ Refusal
measured bytes = on_case (verdict bytes) Err (Ok (length (smt_text bytes)))

unfoldable pub spelled : List ℕ → ℕ → Result ℕ Refusal
spelled bytes room =
    on_case (verdict bytes) Err
    (unless (leb (length (smt_text bytes)) room) (Err Short) (Ok (length (smt_text bytes))))

unfoldable pub spelled_into : List ℕ → List ℕ → List ℕ
spelled_into bytes slice = after_answer (spelled bytes (length slice)) (smt_text bytes) slice

-- The document's number and values for each case of the answer.
abbrev pub spelled_numbers : Result ℕ Refusal → TextNumbers
spelled_numbers (Ok bytes) = record { refusal = 0; place = 0; bytes = bytes }
spelled_numbers (Err e) = record { refusal = refusal_number e; place = refusal_place e; bytes = 0 }
