-- What looking through all constraints comes to, and the checker's answer where the case is accepted.
-- Assumes nothing.
use Rattle.std.specs.Prelude.{ℕ, List, eqb, length, ⊤, Result, Err}
use Rattle.model.specs.Lists.{unless}
use Rattle.model.specs.CaseFile.{case_of}
use Rattle.model.specs.Assignment.{variables}
use Rattle.model.specs.Answers.{answer_of_check, failed_in}
use Rattle.model.specs.declared.Checked.{Checked}
use Rattle.model.specs.declared.Refusal.{Refusal}
use Rattle.model.specs.declared.Refusal.TheVariants.{Assignment}
use Rattle.search.specs.declared.Failed.{Failed}
use Rattle.search.specs.Search.{unless_fails}

-- All constraints hold, or one fails, the first with this number; 0 is none.
abbrev pub held_unless : ℕ → Result ⊤ Failed
held_unless n = unless_fails n tt

unfoldable pub checked_accepted : List ℕ → List ℕ → Result Checked Refusal
checked_accepted bytes xs =
    unless (eqb (length xs) (variables (case_of bytes))) (Err Assignment)
    (answer_of_check (failed_in bytes xs))
