-- Three: what the forward walk holds, after the first lines of a thread and after one more.
-- Assumes nothing.
use Rattle.std.specs.Prelude.{◌≡◌, ◌≢◌, ℕ, ◌<◌, List, [], ◌∷◌, ◌++◌, reverse, length, get_or}
use Rattle.model.specs.CaseFile.{Line}
use Rattle.model.specs.Line.{no_name, target_name}
use Rattle.model.specs.Copies.{copy_of, held_copy, take_line, held_after}
use Rattle.laws.specs.Order.{AllLines}

-- "the latest line up to there that has it as target, or 0": number p, where these are the lines up to there, front to back.
pub data LatestOf (G name : ℕ) (front : List Line) (p : ℕ) : Type 0 where
  none : AllLines (λ l. target_name G l ≢ name) front → p ≡ 0 → LatestOf G name front p
  latest_is : (before : List Line) (l : Line) (after : List Line) → front ≡ before ++ (l ∷ after) → target_name G l ≡ name
      → AllLines (λ m. target_name G m ≢ name) after → p ≡ l.number → LatestOf G name front p

-- "after any of a thread's lines, what it holds for each name is the latest line up to there that has it as target, or 0": these are the
-- lines up to there, which may be any.
pub record HoldsLatest (G : ℕ) (front : List Line) : Type 0 where
  pub size : length (held_after G front) ≡ no_name
  pub latest : (name : ℕ) → name < no_name → LatestOf G name front (get_or (held_after G front) name 0)
  -- It is the copy that the table has at the next line.
  pub copy : (name : ℕ) → held_copy (held_after G front) name ≡ copy_of G name (reverse front)
  -- One more line is one step more.
  pub one_more : (l : Line) → held_after G (front ++ (l ∷ [])) ≡ take_line G (held_after G front) l

abbrev pub ForAnyLines : Type 0
ForAnyLines = (G : ℕ) (front : List Line) → HoldsLatest G front
