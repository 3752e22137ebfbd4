-- How many rows the table has, record by record.
-- Assumes nothing.
use mathlib.Core.Path.{◌≡◌, refl, ap}
use mathlib.Core.Logic.{◌≢◌}
use Prim.Native.Nat.{ℕ, suc, ◌+◌, ◌-◌, ◌*◌, ◌≤◌, ◌<◌}
use mathlib.Core.Bool.{Bool, true, false, cond, not}
use mathlib.Core.List.{List, [], ◌∷◌, ◌++◌}
use native.Mathlib.Omega.{arith}
use lib.ListN.{length, length-append}
use Rattle.model.specs.Word.{bit}
use Rattle.model.specs.CaseFile.{kind_of, Line, Case, records, record_field, thread_count, switch_count, first_record, chains, case_of, item_count, sum_of_lines, sum_of_threads}
use Rattle.model.specs.declared.Kind.{Kind}
use Rattle.model.specs.Line.{visible}
use Rattle.model.specs.Table.{order_rows, all_order_rows, value_rows, all_value_rows, block_rows, run_rows, goal_row, table}
use Rattle.laws.specs.Accepted.{Accepted, thread_lines}
use Rattle.laws.specs.RowCounts.{has_eight, order_row_count, value_row_count}
use Rattle.laws.proofs.Counting.{sum_from}
use Rattle.laws.proofs.RecordSums.{lines_add_up, records_from, records_all, records_more, records_none}
use Rattle.laws.proofs.Following.{lines_end, lines_more, chains_more, chains_end}
use Rattle.laws.proofs.Sizes.{order_count, order_length, order_count_at_most, value_length, value_count_at_most, blocks_length}
use Rattle.encoder.specs.Firsts.{invisible_first, invisible_firsts}

-- The rows of record k: its order rows, as those of a line that is not its thread's first, and the others.
unfoldable pub record_rows : List ℕ → ℕ → ℕ
record_rows bytes k = order_row_count false (kind_of (record_field bytes k 1)) + value_row_count (kind_of (record_field bytes k 1))

-- The loop over the records, at record k.
pub record Counting (bytes : List ℕ) (k n : ℕ) : Type 0 where
  pub some : 0 < k
  pub upto : k ≤ records bytes + 1
  pub small : n + 5 ≤ 5 * k
  pub left : n + records_from bytes (record_rows bytes) k ≡ sum_from (record_rows bytes) 1 (records bytes)

pub counting_start : (bytes : List ℕ) → Counting bytes 1 0
counting_start bytes = record { some = omega arith; upto = omega arith; small = omega arith; left = omega (arith, records_all bytes (record_rows bytes)) }

pub few_rows : (kind : Kind) {orders values : ℕ} → orders ≡ order_row_count false kind → values ≡ value_row_count kind → orders + values ≤ 5
few_rows kind eo ev = omega (arith, order_count_at_most false kind, value_count_at_most kind)

pub counting_more :
    (bytes : List ℕ) (k n : ℕ) → Counting bytes k n → k ≤ records bytes → (kind : Kind) (orders values : ℕ) → kind ≡ kind_of (record_field bytes k 1)
    → orders ≡ order_row_count false kind → values ≡ value_row_count kind → Counting bytes (k + 1) (n + (orders + values))
unfolding record_rows
counting_more bytes k n v h kind orders values ek eo ev =
    let here : orders + values ≡ record_rows bytes k = rw (eo, ev, ek) in
    record {
      some = omega arith;
      upto = omega arith;
      small = omega (arith, v.small, few_rows kind eo ev);
      left = omega (arith, v.left, records_more bytes (record_rows bytes) k h, here);
    }

-- Lines have as many rows as their records, but for the 8s that first lines would have.
abbrev line_weight : Line → ℕ
line_weight l = order_row_count false l.kind + value_row_count l.kind

first_weight : (kind : Kind) → order_row_count false kind ≡ order_row_count true kind + bit (has_eight false kind)
unfolding order_row_count
first_weight kind = go (visible kind)
  where
    go : (q : Bool) → cond (not q) 3 2 ≡ 2 + bit (not q)
    go true = refl
    go false = refl

later_weight : (ls : List Line) → sum_of_lines line_weight ls ≡ order_count false ls + sum_of_lines (λ l. value_row_count l.kind) ls
later_weight [] = refl
later_weight (l ∷ ls) = omega (arith, later_weight ls)

thread_weight : (ls : List Line) → sum_of_lines line_weight ls ≡ order_count true ls + sum_of_lines (λ l. value_row_count l.kind) ls + bit (invisible_first ls)
thread_weight [] = refl
thread_weight (l ∷ ls) = omega (arith, first_weight l.kind, later_weight ls)

threads_weight : (case : Case) (t : ℕ) (threads : List (List Line))
    → length (all_order_rows case t threads) + length (all_value_rows case threads) + invisible_firsts threads ≡ sum_of_threads line_weight threads
unfolding all_order_rows all_value_rows
threads_weight case t [] = refl
threads_weight case t (ls ∷ threads) =
    omega (
      arith,
      length-append (order_rows case t [] ls) (all_order_rows case (suc t) threads),
      order_length case t [] ls,
      length-append (value_rows case [] ls) (all_value_rows case threads),
      value_length case [] ls,
      thread_weight ls,
      threads_weight case (suc t) threads,
    )

module _ (bytes : List ℕ) (ok : Accepted bytes) {k n : ℕ} (v : Counting bytes k n) (h : records bytes < k) where
  abbrev case : Case
  case = case_of bytes

  pub records_count : n ≡ length (all_order_rows case 0 case.threads) + length (all_value_rows case case.threads) + invisible_firsts case.threads
  unfolding record_rows
  records_count =
      omega (
        arith,
        v.left,
        records_none bytes (record_rows bytes) k h,
        lines_add_up (record_rows bytes) bytes ok line_weight (λ t j. refl),
        threads_weight case 0 case.threads,
      )

  pub table_count : {firsts blocks : ℕ} → firsts ≡ invisible_firsts case.threads → blocks ≡ switch_count bytes * item_count case
      → n - firsts + blocks + 1 ≡ length (table case)
  unfolding table run_rows
  table_count ef eb =
      let orders = all_order_rows case 0 case.threads in
      let values = all_value_rows case case.threads in
      let blocks = block_rows case 0 (switch_count bytes) in
      omega (
        arith,
        records_count,
        length-append (orders ++ (values ++ blocks)) (goal_row ∷ []),
        length-append orders (values ++ blocks),
        length-append values blocks,
        blocks_length case 0 (switch_count bytes),
      )

-- The loop over the threads, at thread t.
pub record CountingFirsts (bytes : List ℕ) (to t n : ℕ) : Type 0 where
  pub upto : t ≤ to
  pub small : n ≤ t
  pub left : n + invisible_firsts (chains bytes t (to - t)) ≡ invisible_firsts (chains bytes 0 (thread_count bytes))

module _ (bytes : List ℕ) (to : ℕ) (e_t : to ≡ thread_count bytes) where
  pub firsts_start : CountingFirsts bytes to 0 0
  firsts_start =
      let z : to - 0 ≡ thread_count bytes = omega arith in
      record { upto = omega arith; small = omega arith; left = omega (arith, ap (λ (many : ℕ). invisible_firsts (chains bytes 0 many)) z) }

  module _ {t n : ℕ} (v : CountingFirsts bytes to t n) where
    pub firsts_more : t < to → (q : Bool) {b : ℕ} → q ≡ invisible_first (thread_lines bytes t) → b ≡ bit q → CountingFirsts bytes to (t + 1) (n + b)
    firsts_more h q {b} is eb =
        let here : b ≡ bit (invisible_first (thread_lines bytes t)) = rw (← is) eb in
        record {
          upto = omega arith;
          small = omega (arith, v.small, few q);
          left = omega (arith, v.left, ap invisible_firsts (chains_more bytes t to h), here);
        }
      where
        few : (x : Bool) → bit x ≤ 1
        few true = omega arith
        few false = omega arith

    pub firsts_end : to ≤ t → n ≡ invisible_firsts (chains bytes 0 (thread_count bytes))
    firsts_end h = omega (arith, v.left, ap invisible_firsts (chains_end bytes t to h))

-- The first line of thread t, which has record k.
module _ (bytes : List ℕ) (t : ℕ) {k : ℕ} (e : k ≡ first_record bytes t) where
  pub no_first : k ≡ 0 → false ≡ invisible_first (thread_lines bytes t)
  no_first z = rw (← e, lines_end bytes t k z)

  pub first_kind : Accepted bytes → t < thread_count bytes → k ≢ 0 → {kind : Kind} → kind ≡ kind_of (record_field bytes k 1) → has_eight false kind ≡ invisible_first (thread_lines bytes t)
  first_kind ok few some ek = rw (← e, lines_more bytes ok t k some (omega (arith, ok.firsts t few)), ek)
