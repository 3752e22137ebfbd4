-- The parts of the table one after the other: the order constraints, the 4s and 5s, the 6s; and then the 7.
-- Assumes nothing.
use mathlib.Core.Path.{◌≡◌, refl, sym, ap, ◌∙◌}
use mathlib.Core.Logic.{◌≢◌}
use Prim.Native.Nat.{ℕ, ◌+◌}
use mathlib.Core.Bool.{not}
use mathlib.Core.List.{List, [], ◌∷◌, ◌++◌}
use native.Mathlib.Omega.{arith}
use lib.ListN.{length}
use Rattle.std.specs.Prelude.{Result, Ok, Err}
use borrow.Author.Tests.{eq-eqb, ne_eqb}
use Rattle.model.specs.Word.{nonzero}
use Rattle.model.specs.CaseFile.{case_of}
use Rattle.model.specs.Assignment.{assignment_of}
use Rattle.model.specs.Table.{Row, run_rows, goal_row, table}
use Rattle.model.specs.Holds.{holds}
use Rattle.model.specs.Answers.{failed_in}
use Rattle.laws.specs.Accepted.{Accepted}
use Rattle.laws.proofs.Sizes.{run_rows_lem}
use Rattle.order_check.specs.Rows.{all_orders}
use Rattle.value_check.specs.Rows.{all_values, AllOrdered}
use Rattle.value_check.specs.declared.Walk.{Walk}
use Rattle.value_check.proofs.Breaking.{first_breaking_lem}
use Rattle.walk_back.specs.Blocks.{all_sixes}
use Rattle.search.specs.declared.Failed.{Failed}
use Rattle.search.specs.Search.{searched, unless_fails, Room}
use Rattle.search.proofs.Search.{Searching, searching_start, searching_fits, searching_found, searching_more, searched_is, searched_all, fails_alike, holds_alike, one_holds, one_fails}
use Rattle.checker.specs.Answer.{held_unless}
use Rattle.checker.specs.Run.{RunSearched}

module _ {bytes : List ℕ} (ok : Accepted bytes) (xs : List ℕ) where
  abbrev run : List Row
  run = run_rows (case_of bytes)

  run_split : run ≡ all_orders bytes ++ (all_values bytes ++ all_sixes bytes)
  unfolding run_rows
  run_split = refl

  run_fits : Room 1 run
  run_fits = record { counted = omega arith; room = omega (arith, run_rows_lem bytes ok) }

  start : Searching bytes xs 1 run 1 run
  start = searching_start bytes xs 1 run run (omega arith) refl

  pub order_fails : {f : Failed} → Err f ≡ searched bytes xs 1 (all_orders bytes) → Err f ≡ searched bytes xs 1 run
  order_fails e = searching_found start _ _ run_split e

  module _ {n : ℕ} (orders : Ok n ≡ searched bytes xs 1 (all_orders bytes)) where
    pub all_ordered_lem : AllOrdered bytes xs
    all_ordered_lem = searched_all bytes xs 1 (all_orders bytes) (sym orders)

    after_orders : Searching bytes xs 1 run n (all_values bytes ++ all_sixes bytes)
    after_orders = searching_more start _ _ run_split orders

    pub values_start : Room n (all_values bytes)
    values_start = searching_fits after_orders run_fits (all_values bytes) _ refl

    pub values_fail : {f : Failed} → Err f ≡ searched bytes xs n (all_values bytes) → Err f ≡ searched bytes xs 1 run
    values_fail e = searching_found after_orders _ _ refl e

    module _ {n' : ℕ} (values : Ok n' ≡ searched bytes xs n (all_values bytes)) where
      after_values : Searching bytes xs 1 run n' (all_sixes bytes)
      after_values = searching_more after_orders _ _ refl values

      pub blocks_start : Room n' (all_sixes bytes)
      blocks_start = record { counted = after_values.some; room = omega (arith, after_values.room, run_fits.room) }

      pub blocks_end : {r : Result ℕ Failed} → r ≡ searched bytes xs n' (all_sixes bytes) → r ≡ searched bytes xs 1 run
      blocks_end blocks = blocks ∙ after_values.left

  -- The goal, after all others.
  table_split : table (case_of bytes) ≡ run ++ (goal_row ∷ [])
  unfolding table
  table_split = refl

  start_table : Searching bytes xs 1 (table (case_of bytes)) 1 (table (case_of bytes))
  start_table = searching_start bytes xs 1 _ _ (omega arith) refl

  in_table : searched bytes xs 1 (table (case_of bytes)) ≡ unless_fails (failed_in bytes xs) (1 + length (table (case_of bytes)))
  in_table = searched_is bytes xs 1 (table (case_of bytes)) (omega arith)

  one_failed : {f : Failed} → Err f ≡ searched bytes xs 1 (table (case_of bytes)) → Err f ≡ held_unless (failed_in bytes xs)
  one_failed e = fails_alike (failed_in bytes xs) _ tt (e ∙ in_table)

  pub run_fails : {f : Failed} → RunSearched bytes xs (Err f) → Err f ≡ held_unless (failed_in bytes xs)
  run_fails run_searched = one_failed (searching_found start_table _ _ table_split run_searched.found)

  module _ {walk : Walk} (run_searched : RunSearched bytes xs (Ok walk)) where
    goal_holds : nonzero walk.broken ≡ holds (case_of bytes) (assignment_of (case_of bytes) xs) goal_row
    unfolding holds
    goal_holds = ap nonzero run_searched.breaking ∙ first_breaking_lem bytes xs ok

    at_goal : Searching bytes xs 1 (table (case_of bytes)) walk.next (goal_row ∷ [])
    at_goal = searching_more start_table _ _ table_split run_searched.found

    pub goal_met : walk.broken ≢ 0 → Ok tt ≡ held_unless (failed_in bytes xs)
    goal_met some =
        holds_alike (failed_in bytes xs) _ _ tt
        (one_holds bytes xs _ goal_row _ goal_holds (ap not (ne_eqb walk.broken 0 some)) ∙ at_goal.left ∙ in_table)

    pub goal_missed : walk.broken ≡ 0 → Err (record { constraint = walk.next }) ≡ held_unless (failed_in bytes xs)
    goal_missed e = one_failed (one_fails bytes xs _ goal_row _ goal_holds (ap not (eq-eqb walk.broken 0 e)) ∙ at_goal.left)
