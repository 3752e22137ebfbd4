-- The copies of a name as a chain: the latest, and from each the copy before it.
-- Assumes nothing.
use Rattle.std.specs.Prelude.{◌≡◌, ℕ, ◌<◌, List, [], ◌∷◌, reverse, length, get_or}
use Rattle.model.specs.Limits.{record_places}
use Rattle.model.specs.CaseFile.{Line, Case, lines_of}
use Rattle.model.specs.Line.{target_name}
use Rattle.model.specs.Copies.{copy_of}
use Rattle.copies.specs.Held.{HeldAfter, Held}

-- For each of these lines, which are given latest first, `previous` has by record number the copy of its target before it.
abbrev pub HasBefore : ℕ → List ℕ → List Line → Type 0
HasBefore G previous [] = Unit
HasBefore G previous (l ∷ earlier) = (get_or previous l.number 0 ≡ copy_of G (target_name G l) earlier) × HasBefore G previous earlier

-- The copies before the lines of the threads before t, and before these lines of thread t, latest first, are noted.
pub record Noted (case : Case) (previous : List ℕ) (t : ℕ) (earlier : List Line) : Type 0 where
  pub places : length previous ≡ record_places
  pub done : (u : ℕ) → u < t → HasBefore case.G previous (reverse (lines_of case u))
  pub own : HasBefore case.G previous earlier

-- The chains after these lines of thread t.
pub record ThreadChains (case : Case) (held previous : List ℕ) (t : ℕ) (earlier : List Line) : Type 0 where
  pub holds : HeldAfter case.G held earlier
  pub noted : Noted case previous t earlier

-- The chains after all lines of the threads before t.
pub record CopyChains (case : Case) (copies : List (List ℕ)) (previous : List ℕ) (t : ℕ) : Type 0 where
  pub latest : Held case copies t
  pub noted : Noted case previous t []
