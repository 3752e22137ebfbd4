-- Accepted cases with R 0 and n 0: their table is constraint 7 alone, and no assignment meets it.
-- Assumes nothing. Met again in CaseA, which has it as P10.
use Rattle.std.specs.Prelude.{Ok}
use mathlib.Core.Path.{◌≡◌, refl, ◌∙◌}
use Prim.Native.Nat.{ℕ, zero, suc, ◌+◌, ◌≤◌}
use mathlib.Core.Bool.{false}
use mathlib.Core.List.{List, [], ◌∷◌}
use native.Mathlib.Omega.{arith}
use lib.ListN.{length, replicate}
use Rattle.model.specs.Lists.{written_over}
use Rattle.model.specs.CaseFile.{Case, records, thread_count, switch_count, first_record, chains, case_of}
use Rattle.model.specs.Accept.{verdict}
use Rattle.model.specs.Assignment.{Assignment, variables, assignment_of}
use Rattle.model.specs.Table.{order_rows, value_rows, all_order_rows, all_value_rows, block_rows, run_rows, goal_row, table, numbers_of}
use Rattle.model.specs.Holds.{some_breaks, some_thread_breaks, holds, first_failing}
use Rattle.model.specs.Answers.{encoded, encoded_into, checked}
use Rattle.model.specs.declared.Checked.TheVariants.{Meets}
use Rattle.laws.proofs.Accepted.{accepted_of}
use Rattle.laws.proofs.Following.{lines_end}
use Rattle.correspondence.proofs.Replies.{passes_of_meets, encoded_with_room, encoded_into_lem}

-- "has one constraint, which nothing meets": the numbers of a 7, in every slice that has room for them.
pub record OneConstraintMetByNothing (bytes : List ℕ) : Type 0 where
  pub counts : (room : ℕ) → 6 ≤ room → encoded bytes room ≡ Ok (record { constraints = 1; variables = 0 })
  pub listing : (slice : List ℕ) → 6 ≤ length slice → encoded_into bytes slice ≡ written_over (7 ∷ 0 ∷ 0 ∷ 0 ∷ 0 ∷ 0 ∷ []) slice
  pub never_met : (xs : List ℕ) → checked bytes xs ≡ Ok Meets → ⊥

-- ---- So many threads, none of which has a line

no_order_rows : (case : Case) (t many : ℕ) → all_order_rows case t (replicate many []) ≡ []
unfolding all_order_rows order_rows
no_order_rows case t zero = refl
no_order_rows case t (suc many) = no_order_rows case (suc t) many

no_value_rows : (case : Case) (many : ℕ) → all_value_rows case (replicate many []) ≡ []
unfolding all_value_rows value_rows
no_value_rows case zero = refl
no_value_rows case (suc many) = no_value_rows case many

none_breaks : (case : Case) (α : Assignment) (many : ℕ) → some_thread_breaks case α (replicate many []) ≡ false
unfolding some_thread_breaks some_breaks
none_breaks case α zero = refl
none_breaks case α (suc many) = none_breaks case α many

-- ---- The case

module _ (bytes : List ℕ) (accepted : verdict bytes ≡ Ok tt) (none : records bytes ≡ 0) (no_switch : switch_count bytes ≡ 0) where
  -- No first number is over R, so that each is 0.
  chains_empty : (t many : ℕ) → t + many ≤ thread_count bytes → chains bytes t many ≡ replicate many []
  unfolding chains
  chains_empty t zero h = refl
  chains_empty t (suc many) h =
      let first : first_record bytes t ≡ 0 = omega (arith, (accepted_of bytes accepted).firsts t (omega arith)) in
      rw (lines_end bytes t (first_record bytes t) first, chains_empty (suc t) many (omega arith))

  threads_empty : (case_of bytes).threads ≡ replicate (thread_count bytes) []
  threads_empty = chains_empty 0 (thread_count bytes) (omega arith)

  one_row : table (case_of bytes) ≡ goal_row ∷ []
  unfolding table run_rows block_rows
  one_row = rw (threads_empty, no_order_rows, no_value_rows, no_switch)

  six_numbers : numbers_of (table (case_of bytes)) ≡ 7 ∷ 0 ∷ 0 ∷ 0 ∷ 0 ∷ 0 ∷ []
  unfolding numbers_of
  six_numbers = rw one_row

  no_variables : variables (case_of bytes) ≡ 0
  no_variables = rw (none, no_switch) (omega arith)

  goal_fails : (α : Assignment) → first_failing (case_of bytes) α 1 (table (case_of bytes)) ≡ 1
  unfolding first_failing holds
  goal_fails α = rw (one_row, threads_empty, none_breaks)

  pub one_constraint_met_by_nothing : OneConstraintMetByNothing bytes
  one_constraint_met_by_nothing = record {
    counts = λ room h. encoded_with_room bytes accepted room (rw six_numbers h) ∙ rw (one_row, no_variables);
    listing = λ slice h. encoded_into_lem bytes accepted slice (rw six_numbers h) ∙ rw six_numbers;
    never_met = λ xs e. omega (arith, (passes_of_meets bytes xs e).none_failed, goal_fails (assignment_of (case_of bytes) xs));
  }
