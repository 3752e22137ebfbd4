-- The threads whose first line is invisible: it has no 8, as it has no line before it.
-- Assumes nothing.
use Rattle.std.specs.Prelude.{ℕ, ◌+◌, Bool, false, List, [], ◌∷◌}
use Rattle.model.specs.Word.{bit}
use Rattle.model.specs.CaseFile.{Line}
use Rattle.laws.specs.RowCounts.{has_eight}

-- Whether the first of a thread's lines would have an 8 after another, and how many threads have such a line.
abbrev pub invisible_first : List Line → Bool
invisible_first [] = false
invisible_first (l ∷ ls) = has_eight false l.kind

abbrev pub invisible_firsts : List (List Line) → ℕ
invisible_firsts [] = 0
invisible_firsts (ls ∷ threads) = bit (invisible_first ls) + invisible_firsts threads
