-- The text of the goal as the code writes it: what stands before `false`, a part after the other, along the rows of the table, and how
-- many parentheses it opens.
-- Assumes nothing.
use Rattle.std.specs.Prelude.{ℕ, Bool, true, false, cond, List, [], ◌∷◌, ◌++◌, eqb}
use Rattle.model.specs.Word.{bit}
use Rattle.model.specs.CaseFile.{Line, Case, case_of, sum_of_threads, line_at}
use Rattle.model.specs.declared.Kind.{Kind}
use Rattle.model.specs.declared.Kind.TheVariants.{Compute, Store, Load, Input, Assert, Assume, Lock, Unlock}
use Rattle.model.specs.Table.{Row, table}
use Rattle.smt.specs.Term.{Formula}
use Rattle.smt.specs.Spelling.{ascii, formula_text}
use Rattle.script.specs.Assertions.{is_zero, value_of, sources_of, unlocks_as_stranger}

-- Whether a line of the kind has a part in the goal, and how many lines have.
abbrev pub has_part : Kind → Bool
has_part Compute = false
has_part Store = false
has_part Load = false
has_part Input = false
has_part Assert = true
has_part Assume = false
has_part Lock = false
has_part Unlock = true

abbrev pub parts_of : List (List Line) → ℕ
parts_of threads = sum_of_threads (λ l. bit (has_part l.kind)) threads

-- The formula is true, or ..
unfoldable pub or_head : Formula → List ℕ
or_head f = ascii "(or " ++ (formula_text f ++ ascii " ")

-- The line violates, or ..; with these copies of its guard and its target.
unfoldable pub part_head : Kind → Case → List ℕ → Line → ℕ → ℕ → List ℕ
part_head Compute case sources l guard target = []
part_head Store case sources l guard target = []
part_head Load case sources l guard target = []
part_head Input case sources l guard target = []
part_head Assert case sources l guard target = or_head (is_zero (value_of l.number))
part_head Assume case sources l guard target = []
part_head Lock case sources l guard target = []
part_head Unlock case sources l guard target = or_head (unlocks_as_stranger case sources l guard target)

-- The same along the rows of a table: a 4 has the part of its line, with the copies that stand in the 4; other rows have none.
unfoldable pub row_head : Case → List ℕ → Row → List ℕ
row_head case sources w = cond (eqb w.kind 4) (part_head (line_at case w.one).kind case sources (line_at case w.one) w.two w.five) []

unfoldable pub row_heads : Case → List ℕ → List Row → List ℕ
row_heads case sources [] = []
row_heads case sources (w ∷ ws) = row_head case sources w ++ row_heads case sources ws

abbrev pub goal_heads : List ℕ → List ℕ
goal_heads bytes = row_heads (case_of bytes) (sources_of (case_of bytes)) (table (case_of bytes))
