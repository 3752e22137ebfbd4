-- Each 6 of an accepted case's table has the walk over its copies as its assertion.
-- Assumes nothing. Met again where the assertions of all rows are written.
use Prim.Native.Nat.{ℕ, zero, suc, ◌+◌, ◌≤◌}
use mathlib.Core.List.{List, [], ◌∷◌, ◌++◌}
use native.Mathlib.Omega.{arith}
use Rattle.model.specs.CaseFile.{Line, Case, case_of, item_count}
use Rattle.model.specs.declared.Kind.{Kind}
use Rattle.model.specs.declared.Kind.TheVariants.{Compute, Store, Load, Input, Assert, Assume, Lock, Unlock}
use Rattle.model.specs.Table.{Row, follow_row, stay_rows, line_order_rows, order_rows, demand_rows, value_rows, all_order_rows, all_value_rows, item_rows, block_rows, run_rows, goal_row, table}
use Rattle.laws.specs.Accepted.{Accepted}
use Rattle.laws.proofs.StayRows.{stay_rows_by}
use Rattle.walk_text.specs.Walk.{PreviousCopies, lines_back, SixesWalk}
use Rattle.walk_text.proofs.WalkBack.{six_walked}

module _ (case : Case) (sources previous : List ℕ) where
  abbrev Walks : List Row → Type 0
  Walks = SixesWalk case sources previous

  walks_append : (ws us : List Row) → Walks ws → Walks us → Walks (ws ++ us)
  walks_append [] us h g = g
  walks_append (w ∷ ws) us h g = (h.0, walks_append ws us h.1 g)

  -- Other rows are no 6s.
  follow_walks : (l : Line) (ls : List Line) → Walks (follow_row case l ls ∷ [])
  unfolding follow_row
  follow_walks l [] = ((λ e. absurd (omega (arith, e))), tt)
  follow_walks l (next ∷ ls) = ((λ e. absurd (omega (arith, e))), tt)

  stay_walks : (earlier : List Line) (l : Line) → Walks (stay_rows earlier l)
  stay_walks earlier l = stay_rows_by Walks earlier l tt (λ before. ((λ e. absurd (omega (arith, e))), tt))

  line_order_walks : (t : ℕ) (earlier : List Line) (l : Line) (ls : List Line) → Walks (line_order_rows case t earlier l ls)
  unfolding line_order_rows
  line_order_walks t earlier l ls =
      ((λ e. absurd (omega (arith, e))), walks_append (stay_rows earlier l) (follow_row case l ls ∷ []) (stay_walks earlier l) (follow_walks l ls))

  order_walks : (t : ℕ) (earlier ls : List Line) → Walks (order_rows case t earlier ls)
  unfolding order_rows
  order_walks t earlier [] = tt
  order_walks t earlier (l ∷ ls) =
      walks_append (line_order_rows case t earlier l ls) (order_rows case t (l ∷ earlier) ls) (line_order_walks t earlier l ls) (order_walks t (l ∷ earlier) ls)

  orders_walk : (t : ℕ) (threads : List (List Line)) → Walks (all_order_rows case t threads)
  unfolding all_order_rows
  orders_walk t [] = tt
  orders_walk t (ls ∷ threads) = walks_append (order_rows case t [] ls) (all_order_rows case (suc t) threads) (order_walks t [] ls) (orders_walk (suc t) threads)

  demand_walks : (kind : Kind) (earlier : List Line) (l : Line) → Walks (demand_rows kind case earlier l)
  unfolding demand_rows
  demand_walks Compute earlier l = tt
  demand_walks Store earlier l = tt
  demand_walks Load earlier l = tt
  demand_walks Input earlier l = tt
  demand_walks Assert earlier l = tt
  demand_walks Assume earlier l = ((λ e. absurd (omega (arith, e))), tt)
  demand_walks Lock earlier l = ((λ e. absurd (omega (arith, e))), tt)
  demand_walks Unlock earlier l = tt

  value_walks : (earlier ls : List Line) → Walks (value_rows case earlier ls)
  unfolding value_rows
  value_walks earlier [] = tt
  value_walks earlier (l ∷ ls) = (
    (λ e. absurd (omega (arith, e))),
    walks_append (demand_rows l.kind case earlier l) (value_rows case (l ∷ earlier) ls) (demand_walks l.kind earlier l) (value_walks (l ∷ earlier) ls),
  )

  values_walk : (threads : List (List Line)) → Walks (all_value_rows case threads)
  unfolding all_value_rows
  values_walk [] = tt
  values_walk (ls ∷ threads) = walks_append (value_rows case [] ls) (all_value_rows case threads) (value_walks [] ls) (values_walk threads)

module _ {bytes : List ℕ} (ok : Accepted bytes) (sources previous : List ℕ) (before : PreviousCopies (case_of bytes) previous) where
  abbrev case : Case
  case = case_of bytes

  items_walk : (i g many : ℕ) → g + many ≤ item_count case → Walks case sources previous (item_rows case (lines_back case i) i g many)
  unfolding item_rows
  items_walk i g zero h = tt
  items_walk i g (suc many) h = ((λ e. six_walked ok sources previous before i g (omega arith)), items_walk i (suc g) many (omega arith))

  blocks_walk : (i many : ℕ) → Walks case sources previous (block_rows case i many)
  unfolding block_rows
  blocks_walk i zero = tt
  blocks_walk i (suc many) =
      walks_append case sources previous (item_rows case (lines_back case i) i 0 (item_count case)) (block_rows case (suc i) many)
      (items_walk i 0 (item_count case) (omega arith)) (blocks_walk (suc i) many)

  pub table_walks : SixesWalk case sources previous (table case)
  unfolding table run_rows
  table_walks =
      let append = walks_append case sources previous in
      append (run_rows case) (goal_row ∷ [])
      (append (all_order_rows case 0 case.threads) (all_value_rows case case.threads ++ block_rows case 0 case.n) (orders_walk case sources previous 0 case.threads)
      (append (all_value_rows case case.threads) (block_rows case 0 case.n) (values_walk case sources previous case.threads) (blocks_walk 0 case.n)))
      ((λ e. absurd (omega (arith, e))), tt)
