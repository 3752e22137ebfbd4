-- The rows of the table that put something are the 4s, and each puts the part of its line. Assumes nothing. Met again in GoalText.
use mathlib.Core.Path.{◌≡◌, refl, sym, ap, ◌∙◌}
use Prim.Native.Nat.{ℕ, zero, suc, ◌%◌}
use mathlib.Core.List.{List, [], ◌∷◌, ◌++◌, reverse, append_assoc, append-nil}
use Rattle.model.specs.CaseFile.{Line, Case, lines_of, item_count, line_at}
use Rattle.model.specs.declared.Kind.{Kind}
use Rattle.model.specs.declared.Kind.TheVariants.{Compute, Store, Load, Input, Assert, Assume, Lock, Unlock}
use Rattle.model.specs.Line.{guard_name, target_name}
use Rattle.model.specs.Copies.{copy_of}
use Rattle.model.specs.Table.{Row, follow_row, stay_rows, line_order_rows, order_rows, demand_rows, value_rows, all_order_rows, all_value_rows, item_rows, block_rows, run_rows, goal_row, table}
use Rattle.laws.proofs.StayRows.{stay_rows_by}
use Rattle.goal_text.specs.Goal.{part_head, row_head, row_heads}

module _ (case : Case) (sources : List ℕ) where
  abbrev heads : List Row → List ℕ
  heads = row_heads case sources

  pub heads_append : (ws us : List Row) → heads (ws ++ us) ≡ heads ws ++ heads us
  unfolding row_heads
  heads_append [] us = refl
  heads_append (w ∷ ws) us =
      ap (λ (bytes : List ℕ). row_head case sources w ++ bytes) (heads_append ws us) ∙ sym (append_assoc (row_head case sources w) (heads ws) (heads us))

  -- Rows that put nothing, with others behind them.
  none_first : (ws us : List Row) → heads ws ≡ [] → heads (ws ++ us) ≡ heads us
  none_first ws us none = heads_append ws us ∙ ap (λ (bytes : List ℕ). bytes ++ heads us) none

  follow_none : (l : Line) (ls : List Line) → heads (follow_row case l ls ∷ []) ≡ []
  unfolding row_heads row_head follow_row
  follow_none l [] = refl
  follow_none l (next ∷ ls) = refl

  stay_none : (earlier : List Line) (l : Line) → heads (stay_rows earlier l) ≡ []
  unfolding row_heads row_head
  stay_none earlier l = stay_rows_by (λ ws. heads ws ≡ []) earlier l refl (λ before. refl)

  line_order_none : (t : ℕ) (earlier : List Line) (l : Line) (ls : List Line) → heads (line_order_rows case t earlier l ls) ≡ []
  unfolding row_heads row_head line_order_rows
  line_order_none t earlier l ls = none_first (stay_rows earlier l) (follow_row case l ls ∷ []) (stay_none earlier l) ∙ follow_none l ls

  order_none : (t : ℕ) (earlier ls : List Line) → heads (order_rows case t earlier ls) ≡ []
  unfolding row_heads order_rows
  order_none t earlier [] = refl
  order_none t earlier (l ∷ ls) =
      none_first (line_order_rows case t earlier l ls) (order_rows case t (l ∷ earlier) ls) (line_order_none t earlier l ls) ∙ order_none t (l ∷ earlier) ls

  orders_none : (t : ℕ) (threads : List (List Line)) → heads (all_order_rows case t threads) ≡ []
  unfolding row_heads all_order_rows
  orders_none t [] = refl
  orders_none t (ls ∷ threads) = none_first (order_rows case t [] ls) (all_order_rows case (suc t) threads) (order_none t [] ls) ∙ orders_none (suc t) threads

  demand_none : (kind : Kind) (earlier : List Line) (l : Line) (ws : List Row) → heads (demand_rows kind case earlier l ++ ws) ≡ heads ws
  unfolding row_heads row_head demand_rows
  demand_none Compute earlier l ws = refl
  demand_none Store earlier l ws = refl
  demand_none Load earlier l ws = refl
  demand_none Input earlier l ws = refl
  demand_none Assert earlier l ws = refl
  demand_none Assume earlier l ws = refl
  demand_none Lock earlier l ws = refl
  demand_none Unlock earlier l ws = refl

  items_none : (lines : List Line) (i g many : ℕ) → heads (item_rows case lines i g many) ≡ []
  unfolding row_heads row_head item_rows
  items_none lines i g zero = refl
  items_none lines i g (suc many) = items_none lines i (suc g) many

  blocks_none : (i many : ℕ) → heads (block_rows case i many) ≡ []
  unfolding row_heads block_rows
  blocks_none i zero = refl
  blocks_none i (suc many) =
      let lines = reverse (lines_of case (i % case.T)) in
      none_first (item_rows case lines i 0 (item_count case)) (block_rows case (suc i) many) (items_none lines i 0 (item_count case)) ∙ blocks_none (suc i) many

  -- A line puts its part, with the copies that it has after the lines before it.
  pub line_heads : (earlier : List Line) (l : Line) (ls : List Line) → line_at case l.number ≡ l
      → heads (value_rows case earlier (l ∷ ls))
      ≡ part_head l.kind case sources l (copy_of case.G (guard_name l) earlier) (copy_of case.G (target_name case.G l) earlier) ++ heads (value_rows case (l ∷ earlier) ls)
  unfolding row_heads row_head value_rows
  line_heads earlier l ls found = rw (found, demand_none l.kind earlier l (value_rows case (l ∷ earlier) ls))

  -- All that the table puts, its 4s put.
  pub table_heads : heads (table case) ≡ heads (all_value_rows case case.threads)
  unfolding table run_rows row_heads row_head
  table_heads =
      heads_append (run_rows case) (goal_row ∷ []) ∙ append-nil (heads (run_rows case))
      ∙ none_first (all_order_rows case 0 case.threads) (all_value_rows case case.threads ++ block_rows case 0 case.n) (orders_none 0 case.threads)
      ∙ heads_append (all_value_rows case case.threads) (block_rows case 0 case.n)
      ∙ ap (λ (bytes : List ℕ). heads (all_value_rows case case.threads) ++ bytes) (blocks_none 0 case.n)
      ∙ append-nil (heads (all_value_rows case case.threads))
