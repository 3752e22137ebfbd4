-- The 1s to 5s of an accepted case's table are about its records, and its 2s have n.
-- Assumes nothing. Met again where the text of a row reads its line's record.
use mathlib.Core.Path.{refl}
use mathlib.Core.Logic.{◌≢◌}
use Prim.Native.Nat.{ℕ, zero, suc, ◌%◌, ◌<◌}
use mathlib.Core.List.{List, [], ◌∷◌, ◌++◌, reverse}
use native.Mathlib.Omega.{arith}
use Rattle.model.specs.CaseFile.{Line, Case, case_of, lines_of, item_count}
use Rattle.model.specs.declared.Kind.{Kind}
use Rattle.model.specs.declared.Kind.TheVariants.{Compute, Store, Load, Input, Assert, Assume, Lock, Unlock}
use Rattle.model.specs.Table.{Row, follow_row, stay_rows, line_order_rows, order_rows, demand_rows, value_rows, all_order_rows, all_value_rows, item_rows, block_rows, run_rows, goal_row, table}
use Rattle.laws.specs.Accepted.{Accepted}
use Rattle.laws.specs.Order.{AllLines, AllThreads}
use Rattle.laws.specs.RecordNumber.{RecordNumber}
use Rattle.laws.proofs.AllLines.{all_threads_lem}
use Rattle.laws.proofs.StayRows.{stay_rows_by}
use Rattle.line_threads.specs.Threads.{RowOf, RowsOf}
use Rattle.line_threads.proofs.RecordLines.{lines_are_records}

module _ (case : Case) where
  abbrev Numbered : List Row → Type 0
  Numbered = RowsOf case

  abbrev IsRecord : Line → Type 0
  IsRecord l = RecordNumber case.R l.number

  -- A row of a line that is no 2.
  of_line : {w : Row} → w.kind ≢ 2 → RecordNumber case.R w.one → RowOf case w
  of_line n is = record { line = λ few. is; last = λ e. absurd (n e) }

  -- A row that is none of them: of an 8 nothing is asked, a 6 is about an item, and the 7 about none.
  of_none : {w : Row} → 5 < w.kind → RowOf case w
  of_none h = record { line = λ few. absurd (omega (arith, h, few)); last = λ e. absurd (omega (arith, h, e)) }

  append : (ws us : List Row) → Numbered ws → Numbered us → Numbered (ws ++ us)
  append [] us h g = g
  append (w ∷ ws) us h g = (h.0, append ws us h.1 g)

  follow_numbered : (l : Line) (ls : List Line) → IsRecord l → Numbered (follow_row case l ls ∷ [])
  unfolding follow_row
  follow_numbered l [] is = (record { line = λ few. is; last = λ e. refl }, tt)
  follow_numbered l (next ∷ ls) is = (of_line (λ e. omega (arith, e)) is, tt)

  stay_numbered : (earlier : List Line) (l : Line) → Numbered (stay_rows earlier l)
  stay_numbered earlier l = stay_rows_by Numbered earlier l tt (λ before. (of_none (omega arith), tt))

  line_order_numbered : (t : ℕ) (earlier : List Line) (l : Line) (ls : List Line) → IsRecord l → Numbered (line_order_rows case t earlier l ls)
  unfolding line_order_rows
  line_order_numbered t earlier l ls is =
      (of_line (λ e. omega (arith, e)) is, append (stay_rows earlier l) (follow_row case l ls ∷ []) (stay_numbered earlier l) (follow_numbered l ls is))

  order_numbered : (t : ℕ) (earlier ls : List Line) → AllLines IsRecord ls → Numbered (order_rows case t earlier ls)
  unfolding order_rows
  order_numbered t earlier [] are = tt
  order_numbered t earlier (l ∷ ls) are =
      append (line_order_rows case t earlier l ls) (order_rows case t (l ∷ earlier) ls) (line_order_numbered t earlier l ls are.0)
      (order_numbered t (l ∷ earlier) ls are.1)

  orders_numbered : (t : ℕ) (threads : List (List Line)) → AllThreads IsRecord threads → Numbered (all_order_rows case t threads)
  unfolding all_order_rows
  orders_numbered t [] are = tt
  orders_numbered t (ls ∷ threads) are =
      append (order_rows case t [] ls) (all_order_rows case (suc t) threads) (order_numbered t [] ls are.0) (orders_numbered (suc t) threads are.1)

  demand_numbered : (kind : Kind) (earlier : List Line) (l : Line) → IsRecord l → Numbered (demand_rows kind case earlier l)
  unfolding demand_rows
  demand_numbered Compute earlier l is = tt
  demand_numbered Store earlier l is = tt
  demand_numbered Load earlier l is = tt
  demand_numbered Input earlier l is = tt
  demand_numbered Assert earlier l is = tt
  demand_numbered Assume earlier l is = (of_line (λ e. omega (arith, e)) is, tt)
  demand_numbered Lock earlier l is = (of_line (λ e. omega (arith, e)) is, tt)
  demand_numbered Unlock earlier l is = tt

  value_numbered : (earlier ls : List Line) → AllLines IsRecord ls → Numbered (value_rows case earlier ls)
  unfolding value_rows
  value_numbered earlier [] are = tt
  value_numbered earlier (l ∷ ls) are = (
    of_line (λ e. omega (arith, e)) are.0,
    append (demand_rows l.kind case earlier l) (value_rows case (l ∷ earlier) ls) (demand_numbered l.kind earlier l are.0)
        (value_numbered (l ∷ earlier) ls are.1),
  )

  values_numbered : (threads : List (List Line)) → AllThreads IsRecord threads → Numbered (all_value_rows case threads)
  unfolding all_value_rows
  values_numbered [] are = tt
  values_numbered (ls ∷ threads) are =
      append (value_rows case [] ls) (all_value_rows case threads) (value_numbered [] ls are.0) (values_numbered threads are.1)

  items_numbered : (lines : List Line) (i g many : ℕ) → Numbered (item_rows case lines i g many)
  unfolding item_rows
  items_numbered lines i g zero = tt
  items_numbered lines i g (suc many) = (of_none (omega arith), items_numbered lines i (suc g) many)

  blocks_numbered : (i many : ℕ) → Numbered (block_rows case i many)
  unfolding block_rows
  blocks_numbered i zero = tt
  blocks_numbered i (suc many) =
      append (item_rows case (reverse (lines_of case (i % case.T))) i 0 (item_count case)) (block_rows case (suc i) many)
      (items_numbered (reverse (lines_of case (i % case.T))) i 0 (item_count case)) (blocks_numbered (suc i) many)

  table_numbered : AllThreads IsRecord case.threads → Numbered (table case)
  unfolding table run_rows
  table_numbered are =
      append (run_rows case) (goal_row ∷ [])
      (append (all_order_rows case 0 case.threads) (all_value_rows case case.threads ++ block_rows case 0 case.n) (orders_numbered 0 case.threads are)
      (append (all_value_rows case case.threads) (block_rows case 0 case.n) (values_numbered case.threads are) (blocks_numbered 0 case.n)))
      (of_none (omega arith), tt)

pub table_rows_of : {bytes : List ℕ} → Accepted bytes → RowsOf (case_of bytes) (table (case_of bytes))
table_rows_of {bytes} ok =
    table_numbered (case_of bytes)
    (all_threads_lem (λ l. RecordNumber (case_of bytes).R l.number) (case_of bytes).threads (λ t few. lines_are_records ok t))
