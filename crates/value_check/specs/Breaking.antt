-- Constraint 7: which line, in thread and chain order, is the first that violates.
-- Assumes nothing.
use Rattle.std.specs.Prelude.{ℕ, List, [], ◌∷◌}
use Rattle.model.specs.CaseFile.{Line, Case, case_of}
use Rattle.model.specs.Machine.{noted}
use Rattle.model.specs.Assignment.{Assignment, assignment_of}
use Rattle.model.specs.Holds.{breaks_after}

-- The record noted after these lines of a thread, and after these threads; 0 where no line violates.
unfoldable pub breaking_after : Case → Assignment → ℕ → List Line → List Line → ℕ
breaking_after case α note earlier [] = note
breaking_after case α note earlier (l ∷ ls) = breaking_after case α (noted note l (breaks_after case α earlier l)) (l ∷ earlier) ls

unfoldable pub breaking_in : Case → Assignment → ℕ → List (List Line) → ℕ
breaking_in case α note [] = note
breaking_in case α note (ls ∷ threads) = breaking_in case α (breaking_after case α note [] ls) threads

abbrev pub first_breaking : List ℕ → List ℕ → ℕ
first_breaking bytes xs = breaking_in (case_of bytes) (assignment_of (case_of bytes) xs) 0 (case_of bytes).threads
