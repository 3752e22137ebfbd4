-- The 8 of a line: there is none, or one with the line before it.
-- Assumes nothing. Met again wherever order rows are gone through one by one.
use mathlib.Core.Bool.{Bool, true, false, cond}
use mathlib.Core.List.{List, [], ◌∷◌}
use Rattle.model.specs.CaseFile.{Line}
use Rattle.model.specs.Line.{visible}
use Rattle.model.specs.Table.{Row, row, stay_rows}

pub stay_rows_by : (P : List Row → Type 0) (earlier : List Line) (l : Line) → P [] → ((before : Line) → P (row 8 l.number before.number 0 0 0 ∷ []))
    → P (stay_rows earlier l)
unfolding stay_rows
stay_rows_by P [] l none one = none
stay_rows_by P (before ∷ earlier) l none one = go (visible l.kind)
  where
    go : (q : Bool) → P (cond q [] (row 8 l.number before.number 0 0 0 ∷ []))
    go true = none
    go false = one before
