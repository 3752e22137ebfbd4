-- The 3, the 8, and the 1 or 2, of a line: which of them fails.
-- Assumes nothing.
use mathlib.Core.Path.{◌≡◌, refl, sym}
use Prim.Native.Nat.{ℕ, suc, ◌+◌, ◌-◌, ◌≤◌, ◌<◌}
use mathlib.Core.Bool.{Bool, true, false, cond, not, ◌||◌}
use mathlib.Core.List.{List, [], ◌∷◌, ◌++◌}
use native.Mathlib.Omega.{arith}
use borrow.Author.Tests.{le-leb, lt-leb}
use lib.Dec.{eqb, leb}
use Rattle.std.specs.Prelude.{Ok, Err}
use Rattle.model.specs.CaseFile.{kind_of, record_field, thread_count, line_of, case_of}
use Rattle.model.specs.declared.Kind.{Kind}
use Rattle.model.specs.Assignment.{was_run, assignment_of}
use Rattle.model.specs.Table.{row, follow_row, stay_rows, line_order_rows}
use Rattle.model.specs.Holds.{holds}
use Rattle.laws.specs.RowCounts.{has_eight, order_row_count}
use Rattle.laws.proofs.Views.{EqView, same, diff, eq_view}
use Rattle.assignment.specs.Numbers.{record_block}
use Rattle.line.proofs.Eights.{rows_by_eight, stay_after}
use Rattle.search.specs.Search.{searched}
use Rattle.order_check.specs.Rows.{neighbour, link_rows, own_block, stayed_in, most_block}
use Rattle.case_file.specs.declared.Link.{Link}

pub order_count_at_least : (first : Bool) (kind : Kind) → 2 ≤ order_row_count first kind
order_count_at_least first kind = rw (← (rows_by_eight first kind refl refl)) (go (has_eight first kind))
  where
    go : (q : Bool) → 2 ≤ cond q 3 2
    go true = omega arith
    go false = omega arith

module _ (bytes xs : List ℕ) (t : ℕ) (link : Link) (block : ℕ) (eb : block ≡ record_block xs link.line) where
  follow_holds : holds (case_of bytes) (assignment_of (case_of bytes) xs) (follow_row (case_of bytes) (line_of bytes t link.line) (neighbour bytes t link.next))
      ≡ leb block (most_block bytes xs link.next)
  unfolding holds assignment_of follow_row
  follow_holds = rw eb (go (eq_view link.next 0))
    where
      go : EqView link.next 0
          → holds (case_of bytes) (assignment_of (case_of bytes) xs) (follow_row (case_of bytes) (line_of bytes t link.line) (neighbour bytes t link.next))
          ≡ leb (record_block xs link.line) (most_block bytes xs link.next)
      go (same e q) = rw q
      go (diff e q) = rw q

  thread_holds : holds (case_of bytes) (assignment_of (case_of bytes) xs) (row 3 link.line (thread_count bytes) t 0 0) ≡ own_block bytes t block
  unfolding holds assignment_of
  thread_holds = rw eb

  stay_holds : holds (case_of bytes) (assignment_of (case_of bytes) xs) (row 8 link.line link.before 0 0 0)
      ≡ (not (was_run (case_of bytes) block) || eqb block (record_block xs link.before))
  unfolding holds assignment_of
  stay_holds = rw eb

  -- its 8, where it has one
  stay_rows_lem : link.kind ≡ kind_of (record_field bytes link.line 1)
      → stay_rows (neighbour bytes t link.before) (line_of bytes t link.line)
      ≡ cond (has_eight (eqb link.before 0) link.kind) (row 8 link.line link.before 0 0 0 ∷ []) []
  unfolding stay_rows
  stay_rows_lem ek = rw ek (go (eq_view link.before 0))
    where
      go : EqView link.before 0
          → stay_rows (neighbour bytes t link.before) (line_of bytes t link.line)
          ≡ cond (has_eight (eqb link.before 0) (kind_of (record_field bytes link.line 1))) (row 8 link.line link.before 0 0 0 ∷ []) []
      go (same e q) = rw q
      go (diff e q) = rw q (sym (stay_after (line_of bytes t link.before) [] (line_of bytes t link.line)))

  abbrev rows : ℕ
  rows = order_row_count (eqb link.before 0) link.kind

  module _ (at : ℕ) where
    pub thread_fails : own_block bytes t block ≡ false → Err (record { constraint = at }) ≡ searched bytes xs at (link_rows bytes t link)
    unfolding searched line_order_rows
    thread_fails other = rw (thread_holds, other)

    module _ (ek : link.kind ≡ kind_of (record_field bytes link.line 1)) (mine : own_block bytes t block ≡ true) where
      -- after a 3 that holds
      after_three : searched bytes xs at (link_rows bytes t link)
          ≡ cond (stayed_in bytes xs link block)
          (cond (leb block (most_block bytes xs link.next)) (Ok (at + rows)) (Err (record { constraint = at + rows - 1 })))
          (Err (record { constraint = at + 1 }))
      unfolding searched line_order_rows
      after_three =
          rw (thread_holds, mine, stay_rows_lem ek, ← (rows_by_eight (eqb link.before 0) link.kind refl refl))
          (go (has_eight (eqb link.before 0) link.kind))
        where
          one : suc at ≡ at + 1
          one = omega arith

          two : suc (suc at) ≡ at + 2
          two = omega arith

          three : suc (suc (suc at)) ≡ at + 3
          three = omega arith

          go : (q : Bool)
              → searched bytes xs (suc at) (cond q (row 8 link.line link.before 0 0 0 ∷ []) []
              ++ (follow_row (case_of bytes) (line_of bytes t link.line) (neighbour bytes t link.next) ∷ []))
              ≡ cond (cond q (not (was_run (case_of bytes) block) || eqb block (record_block xs link.before)) true)
              (cond (leb block (most_block bytes xs link.next)) (Ok (at + cond q 3 2)) (Err (record { constraint = at + cond q 3 2 - 1 })))
              (Err (record { constraint = at + 1 }))
          go true = let last : at + 3 - 1 ≡ at + 2 = omega arith in rw (stay_holds, follow_holds, three, two, one, last)
          go false = let last : at + 2 - 1 ≡ at + 1 = omega arith in rw (follow_holds, two, one, last)

      pub stay_fails : stayed_in bytes xs link block ≡ false → Err (record { constraint = at + 1 }) ≡ searched bytes xs at (link_rows bytes t link)
      stay_fails left = rw (after_three, left)

      module _ (stayed : stayed_in bytes xs link block ≡ true) (upto : ℕ) (em : upto ≡ most_block bytes xs link.next) {n : ℕ} (en : n ≡ rows) where
        pub order_holds : block ≤ upto → Ok (at + n) ≡ searched bytes xs at (link_rows bytes t link)
        order_holds h = rw (after_three, stayed, ← em, le-leb block upto h, en)

        pub follow_fails : upto < block → Err (record { constraint = at + n - 1 }) ≡ searched bytes xs at (link_rows bytes t link)
        follow_fails h = rw (after_three, stayed, ← em, lt-leb block upto h, en)
