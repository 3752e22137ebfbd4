-- What the walk holds after lines of a thread, and for all threads.
-- Assumes nothing.
use Rattle.std.specs.Prelude.{◌≡◌, ℕ, ◌≤◌, ◌<◌, List, [], reverse, length, get_or}
use Rattle.model.specs.Limits.{most_threads}
use Rattle.model.specs.CaseFile.{Line, Case, lines_of}
use Rattle.model.specs.Copies.{nothing_held, held_after}

-- What is held after these lines of a thread, latest first.
abbrev pub HeldAfter : ℕ → List ℕ → List Line → Type 0
HeldAfter G held earlier = held ≡ held_after G (reverse earlier)

-- "For every thread the latest copy of each name is known": after all lines of the threads before t.
pub record Held (case : Case) (copies : List (List ℕ)) (t : ℕ) : Type 0 where
  pub size : length copies ≡ most_threads
  pub done : (u : ℕ) → u < t → u < most_threads → get_or copies u [] ≡ held_after case.G (lines_of case u)
  pub none : (u : ℕ) → t ≤ u → u < most_threads → get_or copies u [] ≡ nothing_held
