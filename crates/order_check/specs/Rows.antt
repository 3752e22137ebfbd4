-- The order constraints of a line, of a thread and of all threads of a case, and what they ask of a block number.
-- Assumes nothing.
use Rattle.std.specs.Prelude.{◌≡◌, ℕ, suc, ◌%◌, ◌<◌, Bool, true, cond, not, ◌||◌, List, [], ◌∷◌, eqb}
use Rattle.model.specs.Limits.{most_constraints}
use Rattle.model.specs.CaseFile.{kind_of, Line, record_field, thread_count, switch_count, line_of, case_of}
use Rattle.model.specs.Assignment.{was_run}
use Rattle.model.specs.Table.{Row, line_order_rows, order_rows, all_order_rows}
use Rattle.laws.specs.RowCounts.{has_eight}
use Rattle.laws.specs.Accepted.{thread_lines}
use Rattle.assignment.specs.Numbers.{record_block}
use Rattle.search.specs.Search.{Room}
use Rattle.case_file.specs.declared.Link.{Link}

-- Record k as the one line that is seen of its chain on one side; 0 is none.
abbrev pub neighbour : List ℕ → ℕ → ℕ → List Line
neighbour bytes t k = cond (eqb k 0) [] (line_of bytes t k ∷ [])

-- The rows of a line by where it stands in its chain: more of the chain makes no difference.
abbrev pub link_rows : List ℕ → ℕ → Link → List Row
link_rows bytes t link =
    line_order_rows (case_of bytes) t (neighbour bytes t link.before) (line_of bytes t link.line) (neighbour bytes t link.next)

abbrev pub thread_orders : List ℕ → ℕ → List Row
thread_orders bytes t = order_rows (case_of bytes) t [] (thread_lines bytes t)

abbrev pub all_orders : List ℕ → List Row
all_orders bytes = all_order_rows (case_of bytes) 0 (case_of bytes).threads

-- What the 3 of a line of thread t asks of its block number.
abbrev pub own_block : List ℕ → ℕ → ℕ → Bool
own_block bytes t block = not (was_run (case_of bytes) block) || eqb (block % thread_count bytes) t

-- What its 8 asks of its block number, where it has one.
abbrev pub stayed_in : List ℕ → List ℕ → Link → ℕ → Bool
stayed_in bytes xs link block =
    cond (has_eight (eqb link.before 0) link.kind) (not (was_run (case_of bytes) block) || eqb block (record_block xs link.before)) true

-- What a line's block number is at most: by its 1 that of the next line, or by its 2 n + 1, the number of a line that was not run.
abbrev pub most_block : List ℕ → List ℕ → ℕ → ℕ
most_block bytes xs next = cond (eqb next 0) (suc (switch_count bytes)) (record_block xs next)

-- A number that a constraint can have, and the kind of the line.
pub record AtConstraint (bytes : List ℕ) (at : ℕ) (link : Link) : Type 0 where
  pub number : at < most_constraints
  pub kind : link.kind ≡ kind_of (record_field bytes link.line 1)

-- A thread of the case, and numbers for its order constraints.
pub record ThreadReady (bytes : List ℕ) (t start : ℕ) : Type 0 where
  pub thread : t < thread_count bytes
  pub numbers : Room start (thread_orders bytes t)
