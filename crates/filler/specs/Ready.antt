-- What the filler's parts ask for.
-- Assumes nothing.
use Rattle.std.specs.Prelude.{◌≡◌, ℕ, ◌≤◌, List, length, replicate, Ok}
use Rattle.model.specs.CaseFile.{case_of}
use Rattle.model.specs.Assignment.{variables}
use Rattle.schedule_check.specs.Refusals.{Looked}

-- A schedule of the case that neither 12 nor 13 meets, with its input values, and a 0 for each variable.
pub record RunReady (bytes schedule givens numbers : List ℕ) : Type 0 where
  pub looked : Looked bytes schedule (Ok tt) givens
  pub zeros : numbers ≡ replicate (variables (case_of bytes)) 0

-- The same, and a slice with room for the variables.
pub record SliceReady (bytes schedule givens numbers slice : List ℕ) : Type 0 where
  pub ready : RunReady bytes schedule givens numbers
  pub room : variables (case_of bytes) ≤ length slice
