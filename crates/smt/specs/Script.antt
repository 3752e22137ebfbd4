-- A script: how many variables it declares, numbered from 0, and its assertions. Its truth for an assignment is the truth of them all.
-- Assumes nothing.
use Rattle.std.specs.Prelude.{ℕ, suc, Bool, true, cond, ◌&&◌, List, [], ◌∷◌, get_or}
use Rattle.smt.specs.Term.{Formula, meets}

pub record Script : Type 0 where
  pub variables : ℕ
  pub assertions : List Formula

-- The environment of an assignment, which lists the variables' values by number.
abbrev pub environment : List ℕ → ℕ → ℕ
environment xs k = get_or xs k 0

unfoldable pub all_meet : List Formula → (ℕ → ℕ) → Bool
all_meet [] env = true
all_meet (f ∷ fs) env = meets f env && all_meet fs env

-- The first assertion that is false, counted from k; 0 if all are true.
unfoldable pub first_false : (ℕ → ℕ) → ℕ → List Formula → ℕ
first_false env k [] = 0
first_false env k (f ∷ fs) = cond (meets f env) (first_false env (suc k) fs) k

unfoldable pub script_true : Script → List ℕ → Bool
script_true script xs = all_meet script.assertions (environment xs)
