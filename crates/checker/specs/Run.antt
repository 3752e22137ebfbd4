-- What looking through all constraints but the goal comes to.
-- Assumes nothing.
use Rattle.std.specs.Prelude.{◌≡◌, ℕ, List, Result, IfOk}
use Rattle.model.specs.CaseFile.{case_of}
use Rattle.model.specs.Table.{run_rows}
use Rattle.search.specs.declared.Failed.{Failed}
use Rattle.search.specs.Search.{searched}
use Rattle.value_check.specs.Breaking.{first_breaking}
use Rattle.value_check.specs.Walked.{next_of}
use Rattle.value_check.specs.declared.Walk.{Walk}

-- Which of them fails first, counted from 1; and if all hold, which line is the first that violates.
pub record RunSearched (bytes xs : List ℕ) (r : Result Walk Failed) : Type 0 where
  pub found : next_of r ≡ searched bytes xs 1 (run_rows (case_of bytes))
  pub breaking : IfOk r (λ walk. walk.broken ≡ first_breaking bytes xs)
