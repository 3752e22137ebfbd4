-- What the run of a schedule and the reply to it promise.
-- Assumes nothing.
use Rattle.std.specs.Prelude.{◌≡◌, List, ℕ, length, Result}
use Rattle.model.specs.CaseFile.{case_of}
use Rattle.model.specs.Machine.{Outcome, run}
use Rattle.model.specs.Answers.{answer_of_run, items_after, after_answer, replayed, replayed_into}
use Rattle.model.specs.declared.Refusal.{Refusal}
use Rattle.model.specs.declared.Replayed.{Replayed}
use Rattle.turn.specs.TurnState.{given_by}

-- What the run in blocks with these lengths comes to.
abbrev pub outcome_in : List ℕ → List ℕ → List ℕ → Outcome
outcome_in bytes lengths givens = run (case_of bytes) lengths (given_by givens)

-- The run is replied to, and its items are written over the slice.
pub record Ran (bytes lengths givens slice : List ℕ) (reply : Result Replayed Refusal) (after : List ℕ) : Type 0 where
  pub answer : reply ≡ answer_of_run (outcome_in bytes lengths givens)
  pub written : after ≡ after_answer reply (items_after (outcome_in bytes lengths givens)) slice

-- The call's reply to a schedule, and what it leaves in a slice.
pub record Answered (bytes schedule before after : List ℕ) (r : Result Replayed Refusal) : Type 0 where
  pub answer : r ≡ replayed bytes schedule (length before)
  pub slice : after ≡ replayed_into bytes schedule before
