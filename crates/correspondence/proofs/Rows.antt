-- The rows of the table but for the 8s hold just when the assignment meets constraints 1 to 6 as `Meets` says them and some line
-- violates; the 8s hold just when invisible lines stay with the lines before them. Rows 1 to 5 and 8 are in OrderRows.antt and
-- ValueRows.antt, rows 6 and 7 here.
-- Assumes nothing. Met again in Demand3.
use mathlib.Core.Path.{◌≡◌, refl, sym, ◌∙◌, subst}
use mathlib.Core.Logic.{◌≢◌}
use Prim.Native.Nat.{ℕ, zero, suc, ◌+◌, ◌%◌, ◌≤◌, ◌<◌}
use mathlib.Core.Bool.{Bool, true, false, cond, ◌||◌, true≢false}
use mathlib.Core.List.{List, [], ◌∷◌, ◌++◌, reverse}
use native.Mathlib.Omega.{arith}
use native.Mathlib.Nat.{zero-add}
use lib.Dec.{eqb}
use lib.ListN.{get_or, length}
use borrow.Author.Tests.{eqb-true, eq-eqb}
use Rattle.laws.proofs.Views.{EqView, same, diff, eq_view}
use Rattle.model.specs.Word.{bit}
use Rattle.model.specs.CaseFile.{Line, Case, lines_of, item_count}
use Rattle.model.specs.Line.{item_name, target_name}
use Rattle.model.specs.Assignment.{Assignment}
use Rattle.model.specs.Copies.{latest, walk_back}
use Rattle.model.specs.Table.{row, item_rows, block_rows, all_order_rows, all_value_rows, run_rows, goal_row, table, without_eights}
use Rattle.model.specs.Holds.{from_record, breaks_after, some_breaks, some_thread_breaks, holds7, holds}
use Rattle.correspondence.specs.Meaning.{WellFormed, BlockMet, Meets, AllStay, every_line, breaks_in, break_count}
use Rattle.laws.specs.AllHold.{AllHold}
use Rattle.correspondence.proofs.Sums.{SomeBelow, some_of_sum, sum_of_some}
use Rattle.laws.proofs.Copies.{latest_target, latest_other}
use Rattle.laws.proofs.Walk.{walk_back_past_other_target}
use Rattle.laws.proofs.AllHold.{all_hold_append, all_hold_split}
use Rattle.laws.proofs.LineFound.{line_found}
use Rattle.laws.proofs.WithoutEights.{without_append, all_values_without, blocks_without}
use Rattle.laws.proofs.OrderRows.{order_of_all_rows, stays_of_all_rows, all_rows_of_order}
use Rattle.correspondence.proofs.ValueRows.{lines_of_all_rows, all_rows_of_lines}

count_of_or : (q p : Bool) (x : ℕ) → (p ≡ true → 0 < x) → (q || p) ≡ true → 0 < bit q + x
count_of_or true p x h e = omega arith
count_of_or false p x h e = omega (arith, h e)

or_of_count : (q p : Bool) (x : ℕ) → (0 < x → p ≡ true) → 0 < bit q + x → (q || p) ≡ true
or_of_count true p x h c = refl
or_of_count false p x h c = h (omega arith)

module _ (case : Case) (α : Assignment) where
  -- Row 6 walks from the last copy; the lines after it have another target.
  walk_from_latest : (i g : ℕ) (ls : List Line) → walk_back case α i g (from_record (latest case.G (item_name g) ls) ls) ≡ walk_back case α i g ls
  unfolding walk_back from_record
  walk_from_latest i g [] = refl
  walk_from_latest i g (l ∷ ls) = go (eq_view (target_name case.G l) (item_name g)) (walk_from_latest i g ls)
    where
      past : (q : Bool) → walk_back case α i g (from_record (latest case.G (item_name g) ls) ls) ≡ walk_back case α i g ls
          → target_name case.G l ≢ item_name g
          → walk_back case α i g (cond q (l ∷ ls) (from_record (latest case.G (item_name g) ls) ls)) ≡ walk_back case α i g (l ∷ ls)
      past true ih other = refl
      past false ih other = ih ∙ sym (walk_back_past_other_target case α i g l ls other)

      go : EqView (target_name case.G l) (item_name g) → walk_back case α i g (from_record (latest case.G (item_name g) ls) ls) ≡ walk_back case α i g ls
          → walk_back case α i g (from_record (latest case.G (item_name g) (l ∷ ls)) (l ∷ ls)) ≡ walk_back case α i g (l ∷ ls)
      go (same e q) ih = rw (latest_target case.G (item_name g) l ls e, eq-eqb l.number l.number refl)
      go (diff e q) ih =
          subst (λ (k : ℕ). walk_back case α i g (from_record k (l ∷ ls)) ≡ walk_back case α i g (l ∷ ls))
          (sym (latest_other case.G (item_name g) l ls e)) (past (eqb l.number (latest case.G (item_name g) ls)) ih e)

  abbrev block_lines : ℕ → List Line
  block_lines i = reverse (lines_of case (i % case.T))

  block_of_row : (i g : ℕ) → holds case α (row 6 g i (latest case.G (item_name g) (block_lines i)) 0 0) ≡ true → BlockMet case α i g
  unfolding holds
  block_of_row i g h = eqb-true _ _ h ∙ walk_from_latest i g (block_lines i)

  row_of_block : (i g : ℕ) → BlockMet case α i g → holds case α (row 6 g i (latest case.G (item_name g) (block_lines i)) 0 0) ≡ true
  unfolding holds
  row_of_block i g m = eq-eqb _ _ (m ∙ sym (walk_from_latest i g (block_lines i)))

  items_of_rows : (i first many : ℕ) → AllHold case α (item_rows case (block_lines i) i first many) → (g : ℕ) → first ≤ g → g < first + many
      → BlockMet case α i g
  unfolding item_rows
  items_of_rows i first zero h g low high = absurd (omega arith)
  items_of_rows i first (suc many) h g low high = go (eq_view first g) (items_of_rows i (suc first) many h.1 g)
    where
      go : EqView first g → (suc first ≤ g → g < suc first + many → BlockMet case α i g) → BlockMet case α i g
      go (same e q) ih = subst (λ (x : ℕ). BlockMet case α i x) e (block_of_row i first h.0)
      go (diff e q) ih = ih (omega arith) (omega arith)

  rows_of_items : (i first many : ℕ) → ((g : ℕ) → g < first + many → BlockMet case α i g) → AllHold case α (item_rows case (block_lines i) i first many)
  unfolding item_rows
  rows_of_items i first zero m = tt
  rows_of_items i first (suc many) m = (row_of_block i first (m first (omega arith)), rows_of_items i (suc first) many (λ g h. m g (omega arith)))

  blocks_of_rows : (first many : ℕ) → AllHold case α (block_rows case first many)
      → (i : ℕ) → first ≤ i → i < first + many → (g : ℕ) → g < item_count case → BlockMet case α i g
  unfolding block_rows
  blocks_of_rows first zero h i low high g few = absurd (omega arith)
  blocks_of_rows first (suc many) h i low high g few =
      let parts = all_hold_split case α (item_rows case (block_lines first) first 0 (item_count case)) (block_rows case (suc first) many) h in
      go (eq_view first i) parts.front (λ low' high'. blocks_of_rows (suc first) many parts.back i low' high' g few)
    where
      go : EqView first i → AllHold case α (item_rows case (block_lines first) first 0 (item_count case))
          → (suc first ≤ i → i < suc first + many → BlockMet case α i g) → BlockMet case α i g
      go (same e q) items ih = subst (λ (x : ℕ). BlockMet case α x g) e (items_of_rows first 0 (item_count case) items g (omega arith) (omega arith))
      go (diff e q) items ih = ih (omega arith) (omega arith)

  rows_of_blocks : (first many : ℕ) → ((i : ℕ) → i < first + many → (g : ℕ) → g < item_count case → BlockMet case α i g)
      → AllHold case α (block_rows case first many)
  unfolding block_rows
  rows_of_blocks first zero m = tt
  rows_of_blocks first (suc many) m =
      all_hold_append case α (item_rows case (block_lines first) first 0 (item_count case)) (block_rows case (suc first) many)
      (rows_of_items first 0 (item_count case) (λ g h. m first (omega arith) g (omega arith)))
      (rows_of_blocks (suc first) many (λ i h. m i (omega arith)))

  -- Row 7.
  count_of_breaks : (earlier ls : List Line) → some_breaks case α earlier ls ≡ true → 0 < breaks_in case α every_line earlier ls
  unfolding some_breaks
  count_of_breaks earlier [] h = absurd (true≢false (sym h))
  count_of_breaks earlier (l ∷ ls) h = count_of_or (breaks_after case α earlier l)
      (some_breaks case α (l ∷ earlier) ls) (breaks_in case α every_line (l ∷ earlier) ls) (count_of_breaks (l ∷ earlier) ls) h

  breaks_of_count : (earlier ls : List Line) → 0 < breaks_in case α every_line earlier ls → some_breaks case α earlier ls ≡ true
  unfolding some_breaks
  breaks_of_count earlier [] h = absurd (omega arith)
  breaks_of_count earlier (l ∷ ls) h = or_of_count (breaks_after case α earlier l)
      (some_breaks case α (l ∷ earlier) ls) (breaks_in case α every_line (l ∷ earlier) ls) (breaks_of_count (l ∷ earlier) ls) h

  count_of_thread_breaks : (threads : List (List Line)) → some_thread_breaks case α threads ≡ true
      → SomeBelow (λ t. breaks_in case α every_line [] (get_or threads t [])) (length threads)
  unfolding some_thread_breaks
  count_of_thread_breaks [] h = absurd (true≢false (sym h))
  count_of_thread_breaks (ls ∷ threads) h = go (some_breaks case α [] ls) refl h (count_of_thread_breaks threads)
    where
      go : (q : Bool) → some_breaks case α [] ls ≡ q → (q || some_thread_breaks case α threads) ≡ true
          → (some_thread_breaks case α threads ≡ true → SomeBelow (λ t. breaks_in case α every_line [] (get_or threads t [])) (length threads))
          → SomeBelow (λ t. breaks_in case α every_line [] (get_or (ls ∷ threads) t [])) (suc (length threads))
      go true e h' ih = (0, omega arith, count_of_breaks [] ls e)
      go false e h' ih = let one = ih h' in (suc one.0, omega (arith, one.1), one.2)

  thread_breaks_of_count : (threads : List (List Line)) (t : ℕ) → 0 < breaks_in case α every_line [] (get_or threads t []) → some_thread_breaks case α threads ≡ true
  unfolding some_thread_breaks
  thread_breaks_of_count [] t h = absurd (omega arith)
  thread_breaks_of_count (ls ∷ threads) zero h = rw (breaks_of_count [] ls h)
  thread_breaks_of_count (ls ∷ threads) (suc t) h = go (some_breaks case α [] ls) (thread_breaks_of_count threads t h)
    where
      go : (q : Bool) → some_thread_breaks case α threads ≡ true → (q || some_thread_breaks case α threads) ≡ true
      go true e = refl
      go false e = e

module _ (case : Case) (wf : WellFormed case) (α : Assignment) where
  pub count_of_goal : holds7 case α ≡ true → 0 < break_count case α every_line
  count_of_goal h =
      let one = count_of_thread_breaks case α case.threads h in
      sum_of_some (λ t. breaks_in case α every_line [] (lines_of case t)) case.T one.0 (rw wf.thread_count_lem at one.1) one.2

  pub goal_of_count : 0 < break_count case α every_line → holds7 case α ≡ true
  goal_of_count h =
      let one = some_of_sum (λ t. breaks_in case α every_line [] (lines_of case t)) case.T h in
      thread_breaks_of_count case α case.threads one.0 one.2

  -- Constraints 1 to 6 are the rows but for the 8s and the goal,
  meets_of_rows : AllHold case α (without_eights (run_rows case)) → Meets case α
  unfolding run_rows
  meets_of_rows h =
      let orders = all_order_rows case 0 case.threads in
      let values = all_value_rows case case.threads in
      let blocks = block_rows case 0 case.n in
      let rows = rw (without_append orders (values ++ blocks), without_append values blocks, all_values_without case case.threads, blocks_without case 0 case.n) at h in
      let after = all_hold_split case α (without_eights orders) (values ++ blocks) rows in
      let later = all_hold_split case α values blocks after.back in
      record {
        order = λ t few. rw (zero-add t) at (order_of_all_rows case α 0 case.threads after.front t (omega (arith, wf.thread_count_lem)));
        lines = λ t few. lines_of_all_rows case wf.few_items α case.threads (line_found case wf.once) later.front t;
        blocks = λ i few g some. blocks_of_rows case α 0 case.n later.back i (omega arith) (omega arith) g some;
      }

  -- and the 8s are what is left.
  rows_of_meets : Meets case α → AllStay case α → AllHold case α (run_rows case)
  unfolding run_rows
  rows_of_meets m stays =
      all_hold_append case α (all_order_rows case 0 case.threads) _
      (all_rows_of_order case α 0 case.threads
      (λ t few. rw (zero-add t) (record { ordered = m.order t (omega (arith, wf.thread_count_lem)); stays = stays t (omega (arith, wf.thread_count_lem)) })))
      (all_hold_append case α (all_value_rows case case.threads) (block_rows case 0 case.n)
      (all_rows_of_lines case wf.few_items α case.threads (line_found case wf.once) (λ t few. m.lines t (omega (arith, wf.thread_count_lem))))
      (rows_of_blocks case α 0 case.n (λ i few g some. m.blocks i (omega arith) g some)))

  pub meets_of_table : AllHold case α (without_eights (table case)) → Meets case α × (0 < break_count case α every_line)
  unfolding table without_eights holds
  meets_of_table h =
      let rows = rw (without_append (run_rows case) (goal_row ∷ [])) at h in
      let parts = all_hold_split case α (without_eights (run_rows case)) (goal_row ∷ []) rows in
      (meets_of_rows parts.front, count_of_goal parts.back.0)

  pub stays_of_table : AllHold case α (table case) → AllStay case α
  unfolding table run_rows
  stays_of_table h t few =
      let parts = all_hold_split case α (run_rows case) (goal_row ∷ []) h in
      let rows = all_hold_split case α (all_order_rows case 0 case.threads) _ parts.front in
      stays_of_all_rows case α 0 case.threads rows.front t

  pub table_of_meets : Meets case α → AllStay case α → 0 < break_count case α every_line → AllHold case α (table case)
  unfolding table holds
  table_of_meets m stays h = all_hold_append case α (run_rows case) (goal_row ∷ []) (rows_of_meets m stays) (goal_of_count h, tt)
