-- What holds of every line of a thread, and the order of a thread's block numbers: what constraints 1 to 3 say, and what the 8s say.
-- Assumes nothing.
use Rattle.std.specs.Prelude.{◌≡◌, ℕ, suc, ◌%◌, ◌≤◌, ◌<◌, true, false, List, [], ◌∷◌}
use Rattle.model.specs.CaseFile.{Line, Case}
use Rattle.model.specs.Line.{visible}
use Rattle.model.specs.Assignment.{was_run}

-- What holds of every line of a thread, and of every line of every thread.
abbrev pub AllLines : (Line → Type 0) → List Line → Type 0
AllLines P [] = Unit
AllLines P (l ∷ ls) = P l × AllLines P ls

abbrev pub AllThreads : (Line → Type 0) → List (List Line) → Type 0
AllThreads P [] = Unit
AllThreads P (ls ∷ threads) = AllLines P ls × AllThreads P threads

-- Record numbers count from 1.
abbrev pub Positive : Line → Type 0
Positive l = 0 < l.number

-- Constraints 1, 2 and 3 at one line: its block number x is at least that of the line before, at most n + 1, and the thread's unless it
-- is n + 1, the number of a line that was not run.
pub record InOrder (case : Case) (t low x : ℕ) : Type 0 where
  pub from : low ≤ x
  pub upto : x ≤ suc case.n
  pub mine : x ≤ case.n → x % case.T ≡ t

-- Along a thread's lines, whose block numbers start from `low`.
abbrev pub Ordered : Case → (ℕ → ℕ) → ℕ → ℕ → List Line → Type 0
Ordered case block t low [] = Unit
Ordered case block t low (l ∷ ls) = InOrder case t low (block l.number) × Ordered case block t (block l.number) ls

-- Constraint 8 at a line after these earlier ones, latest first: where it is invisible and was run, it has the block number of the line
-- before it.
abbrev pub StaysAfter : Case → (ℕ → ℕ) → List Line → Line → Type 0
StaysAfter case block [] l = Unit
StaysAfter case block (before ∷ earlier) l =
    visible l.kind ≡ false → was_run case (block l.number) ≡ true → block l.number ≡ block before.number

-- Along a thread's lines.
abbrev pub Stays : Case → (ℕ → ℕ) → List Line → List Line → Type 0
Stays case block earlier [] = Unit
Stays case block earlier (l ∷ ls) = StaysAfter case block earlier l × Stays case block (l ∷ earlier) ls
