-- How many order rows a line has, by whether it has an 8; and its 8.
-- Assumes nothing. Met again where its order rows are put and checked.
use Rattle.std.proofs.Common.{◌≡◌, Bool, true, false, cond, not, List, [], ◌∷◌, sym, refl, ap, ◌∙◌}
use Rattle.model.specs.CaseFile.{Line}
use Rattle.model.specs.declared.Kind.{Kind}
use Rattle.model.specs.Line.{visible}
use Rattle.model.specs.Table.{row, stay_rows}
use Rattle.laws.specs.RowCounts.{has_eight, order_row_count}

pub rows_by_eight : (first : Bool) (kind : Kind) {r q : Bool} → r ≡ has_eight first kind → r ≡ q → cond q 3 2 ≡ order_row_count first kind
unfolding order_row_count
rows_by_eight first kind e h = ap (λ (x : Bool). cond x 3 2) (sym h ∙ e)

-- Its 8, after another line.
pub stay_after : (before : Line) (earlier : List Line) (l : Line)
    → cond (has_eight false l.kind) (row 8 l.number before.number 0 0 0 ∷ []) [] ≡ stay_rows (before ∷ earlier) l
unfolding stay_rows
stay_after before earlier l = go (visible l.kind)
  where
    go : (q : Bool) → cond (not q) (row 8 l.number before.number 0 0 0 ∷ []) [] ≡ cond q [] (row 8 l.number before.number 0 0 0 ∷ [])
    go true = refl
    go false = refl
