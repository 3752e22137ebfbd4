-- How many rows of the table a line has, each count in this one place.
-- Assumes nothing.
use Rattle.std.specs.Prelude.{ℕ, Bool, true, false, cond, not, ◌||◌, List, [], ◌∷◌}
use Rattle.model.specs.CaseFile.{Line}
use Rattle.model.specs.declared.Kind.{Kind}
use Rattle.model.specs.declared.Kind.TheVariants.{Compute, Store, Load, Input, Assert, Assume, Lock, Unlock}
use Rattle.model.specs.Line.{visible}

-- Five: "An invisible line that is not its thread's first": whether a line, which is the first or not, has an 8.
abbrev pub has_eight : Bool → Kind → Bool
has_eight first kind = not (first || visible kind)

-- Its order rows: a 3, its 8, and a 1 or a 2.
unfoldable pub order_row_count : Bool → Kind → ℕ
order_row_count first kind = cond (has_eight first kind) 3 2

-- No line is earlier.
abbrev pub is_first : List Line → Bool
is_first [] = true
is_first (before ∷ earlier) = false

-- Its other rows: a 4, and a 5 for assume and lock.
unfoldable pub value_row_count : Kind → ℕ
value_row_count Compute = 1
value_row_count Store = 1
value_row_count Load = 1
value_row_count Input = 1
value_row_count Assert = 1
value_row_count Assume = 2
value_row_count Lock = 2
value_row_count Unlock = 1
