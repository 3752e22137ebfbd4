-- What the filler's parts answer, and what they leave in the slices that they are lent.
-- Assumes nothing.
use Rattle.std.specs.Prelude.{◌≡◌, ℕ, List, length, Result, Ok}
use Rattle.model.specs.CaseFile.{case_of}
use Rattle.model.specs.Schedule.{run_of}
use Rattle.model.specs.Fill.{fill}
use Rattle.model.specs.Answers.{answer_of_fill, filled, after_answer, filled_into}
use Rattle.model.specs.declared.Refusal.{Refusal}

-- The answer to the schedule's run; where it is an assignment, the numbers are that.
pub record RunFilled (bytes schedule : List ℕ) (r : Result ℕ Refusal) (numbers : List ℕ) : Type 0 where
  pub answer : r ≡ answer_of_fill (case_of bytes) schedule (run_of (case_of bytes) schedule)
  pub fills : (size : ℕ) → r ≡ Ok size → numbers ≡ fill (case_of bytes) schedule

-- The same, and the assignment is written over the slice.
pub record Over (bytes schedule slice : List ℕ) (r : Result ℕ Refusal) (after : List ℕ) : Type 0 where
  pub answer : r ≡ answer_of_fill (case_of bytes) schedule (run_of (case_of bytes) schedule)
  pub written : after ≡ after_answer r (fill (case_of bytes) schedule) slice

-- The call's answer to a schedule, and what it leaves in a slice.
pub record Answered (bytes schedule before after : List ℕ) (r : Result ℕ Refusal) : Type 0 where
  pub answer : r ≡ filled bytes schedule (length before)
  pub slice : after ≡ filled_into bytes schedule before
