-- What the writers are given and what they leave, with the latest copies where a writer has them; and the answer of the call.
-- Assumes nothing.
use Rattle.std.specs.Prelude.{◌≡◌, ℕ, ◌≤◌, List, length, Result}
use Rattle.model.specs.CaseFile.{global_count, case_of, lines_of}
use Rattle.model.specs.Copies.{held_after}
use Rattle.model.specs.Answers.{encoded, encoded_into}
use Rattle.model.specs.declared.Refusal.{Refusal}
use Rattle.model.specs.declared.TableSize.{TableSize}
use Rattle.laws.specs.Written.{Put}
use Rattle.copies.specs.Held.{Held}
use Rattle.encoder.specs.Parts.{value_numbers}

-- The latest copies after all lines of the threads before t, and a slice with room for so many numbers.
pub record CopiesRoom (bytes : List ℕ) (copies : List (List ℕ)) (t size : ℕ) (slice : List ℕ) : Type 0 where
  pub held : Held (case_of bytes) copies t
  pub room : size ≤ length slice

-- These numbers are written, and all lines of thread t are held.
pub record PutThread (bytes : List ℕ) (t : ℕ) (before : List ℕ) (at : ℕ) (after : List ℕ) (r : ℕ) (held : List ℕ) : Type 0 where
  pub put : Put (value_numbers bytes t) before at after r
  pub all : held ≡ held_after (global_count bytes) (lines_of (case_of bytes) t)

-- These numbers are written, and the latest copies are then those after all lines of the threads before t.
pub record PutCopies (bytes numbers before : List ℕ) (at : ℕ) (after : List ℕ) (r : ℕ) (copies : List (List ℕ)) (t : ℕ) : Type 0 where
  pub put : Put numbers before at after r
  pub held : Held (case_of bytes) copies t

-- The call's answer, and what it leaves in a slice.
pub record Answered (bytes before after : List ℕ) (r : Result TableSize Refusal) : Type 0 where
  pub answer : r ≡ encoded bytes (length before)
  pub slice : after ≡ encoded_into bytes before
