-- What the decoder answers for an accepted case.
-- Assumes nothing.
use Rattle.std.specs.Prelude.{◌≡◌, ℕ, List, length, Result}
use Rattle.model.specs.Answers.{decoded, decoded_into}
use Rattle.model.specs.declared.Refusal.{Refusal}

-- The call's answer to an assignment, and what it leaves in a slice.
pub record Answered (bytes xs before after : List ℕ) (r : Result ℕ Refusal) : Type 0 where
  pub answer : r ≡ decoded bytes xs (length before)
  pub slice : after ≡ decoded_into bytes xs before
