-- The parts of the table one by one: by thread, by block, by item, and the whole.
-- Assumes nothing.
use mathlib.Core.Path.{◌≡◌, refl, sym, ap, ◌∙◌, subst}
use Prim.Native.Nat.{ℕ, suc, ◌+◌, ◌-◌, ◌%◌, ◌≤◌, ◌<◌}
use mathlib.Core.List.{List, [], ◌∷◌, ◌++◌, reverse}
use native.Mathlib.Omega.{arith}
use native.Mathlib.Nat.{mod-lt}
use native.Mathlib.Numerals.{add-one}
use lib.ListN.{length, length-append, get_or, set}
use Rattle.model.specs.Limits.{most_threads, most_items}
use Rattle.model.specs.CaseFile.{thread_count, switch_count, chains, case_of, lines_of, item_count}
use Rattle.model.specs.Line.{item_name}
use Rattle.model.specs.Lists.{written_over}
use Rattle.model.specs.Copies.{latest, held_copy}
use Rattle.model.specs.Table.{Row, row, order_rows, all_order_rows, value_rows, all_value_rows, item_rows, block_rows, run_rows, goal_row, table, numbers_of}
use Rattle.laws.specs.Accepted.{Accepted, thread_lines}
use Rattle.laws.specs.Written.{numbers_at, Put}
use Rattle.laws.proofs.Following.{chains_more, chains_end}
use Rattle.laws.proofs.RowNumbers.{numbers_of_append}
use Rattle.laws.proofs.Sizes.{six_a_row}
use Rattle.laws.proofs.Writing.{numbers_from_start, put_then}
use Rattle.copies.specs.Held.{Held}
use Rattle.copies.proofs.Held.{held_next, held_last}
use Rattle.encoder.proofs.Series.{Series, Going, going_more, going_end}
use Rattle.encoder.specs.Parts.{order_numbers, all_order_numbers, value_numbers, all_value_numbers, item_numbers, all_item_numbers, run_numbers, table_numbers}
use Rattle.encoder.specs.Writers.{PutThread, PutCopies}

-- A thread of an accepted case is one of four.
pub thread_low : {bytes : List ℕ} → Accepted bytes → {t T : ℕ} → T ≡ thread_count bytes → t < T → t < most_threads
thread_low ok e h = omega (arith, ok.few_threads)

module _ (bytes : List ℕ) where
  -- The order rows of the threads from t on.
  unfoldable pub orders_from : ℕ → ℕ → List ℕ
  orders_from to t = numbers_of (all_order_rows (case_of bytes) t (chains bytes t (to - t)))

  pub orders_all : (to : ℕ) → to ≡ thread_count bytes → orders_from to 0 ≡ all_order_numbers bytes
  unfolding orders_from all_order_numbers
  orders_all to e = let z : to - 0 ≡ thread_count bytes = omega arith in rw z

  pub orders_more : (to t : ℕ) → t < to → orders_from to t ≡ order_numbers bytes t ++ orders_from to (t + 1)
  unfolding orders_from order_numbers all_order_rows
  orders_more to t h =
      rw (chains_more bytes t to h, add-one t)
      (numbers_of_append (order_rows (case_of bytes) t [] (thread_lines bytes t)) (all_order_rows (case_of bytes) (suc t) (chains bytes (suc t) (to - suc t))))

  pub orders_end : (to t : ℕ) → to ≤ t → orders_from to t ≡ []
  unfolding orders_from all_order_rows numbers_of
  orders_end to t h = rw (chains_end bytes t to h)

  abbrev pub order_series : ℕ → Series
  order_series to = record { from = orders_from to; here = order_numbers bytes; to = to; more = orders_more to; none = orders_end to }

  -- Their 4s and 5s.
  unfoldable pub values_from : ℕ → ℕ → List ℕ
  values_from to t = numbers_of (all_value_rows (case_of bytes) (chains bytes t (to - t)))

  pub values_all : (to : ℕ) → to ≡ thread_count bytes → values_from to 0 ≡ all_value_numbers bytes
  unfolding values_from all_value_numbers
  values_all to e = let z : to - 0 ≡ thread_count bytes = omega arith in rw z

  pub values_more : (to t : ℕ) → t < to → values_from to t ≡ value_numbers bytes t ++ values_from to (t + 1)
  unfolding values_from value_numbers all_value_rows
  values_more to t h =
      rw (chains_more bytes t to h)
      (numbers_of_append (value_rows (case_of bytes) [] (thread_lines bytes t)) (all_value_rows (case_of bytes) (chains bytes (t + 1) (to - (t + 1)))))

  pub values_end : (to t : ℕ) → to ≤ t → values_from to t ≡ []
  unfolding values_from all_value_rows numbers_of
  values_end to t h = rw (chains_end bytes t to h)

  abbrev pub value_series : ℕ → Series
  value_series to = record { from = values_from to; here = value_numbers bytes; to = to; more = values_more to; none = values_end to }

  -- At thread t: the latest copies after all lines of the threads before it, and what is written of the values of so many threads.
  pub record Taking (to : ℕ) (copies : List (List ℕ)) (t : ℕ) (before : List ℕ) (start : ℕ) (out : List ℕ) (at : ℕ) : Type 0 where
    pub held : Held (case_of bytes) copies t
    pub going : Going (value_series to) t (all_value_numbers bytes) before start out at

  module _ {to : ℕ} {copies : List (List ℕ)} {t : ℕ} {before : List ℕ} {start : ℕ} {out : List ℕ} {at : ℕ} (v : Taking to copies t before start out at) where
    pub taking_more : t < to → t < most_threads → {out' : List ℕ} {at' : ℕ} {held : List ℕ} → PutThread bytes t out at out' at' held
        → Taking to (set copies t held) (t + 1) before start out' at'
    taking_more h few {held = held} done = record {
      held = rw add-one (held_next (case_of bytes) copies t v.held few held done.all);
      going = going_more v.going h done.put;
    }

    pub taking_end : to ≡ thread_count bytes → to ≤ t → PutCopies bytes (all_value_numbers bytes) before start out at copies (thread_count bytes)
    taking_end e h = record { put = going_end v.going h; held = subst (Held (case_of bytes) copies) (omega arith) v.held }

  -- The 6s of the blocks from i on.
  unfoldable pub blocks_from : ℕ → ℕ → List ℕ
  blocks_from to i = numbers_of (block_rows (case_of bytes) i (to - i))

  pub blocks_all : (to : ℕ) → to ≡ switch_count bytes → blocks_from to 0 ≡ all_item_numbers bytes
  unfolding blocks_from all_item_numbers
  blocks_all to e = let z : to - 0 ≡ switch_count bytes = omega arith in rw z

  pub blocks_more : (to i : ℕ) → i < to → blocks_from to i ≡ item_numbers bytes i ++ blocks_from to (i + 1)
  unfolding blocks_from item_numbers block_rows
  blocks_more to i h =
      let e : to - i ≡ suc (to - (i + 1)) = omega arith in
      rw (e, add-one i)
      (numbers_of_append (item_rows (case_of bytes) (reverse (lines_of (case_of bytes) (i % thread_count bytes))) i 0 (item_count (case_of bytes)))
      (block_rows (case_of bytes) (suc i) (to - suc i)))

  pub blocks_end : (to i : ℕ) → to ≤ i → blocks_from to i ≡ []
  unfolding blocks_from block_rows numbers_of
  blocks_end to i h = let e : to - i ≡ 0 = omega arith in rw e

  abbrev pub block_series : ℕ → Series
  block_series to = record { from = blocks_from to; here = item_numbers bytes; to = to; more = blocks_more to; none = blocks_end to }

  -- Those of block i for the items from g on.
  unfoldable pub items_from : ℕ → ℕ → ℕ → List ℕ
  items_from i to g = numbers_of (item_rows (case_of bytes) (reverse (lines_of (case_of bytes) (i % thread_count bytes))) i g (to - g))

  pub items_all : (i to : ℕ) → to ≡ item_count (case_of bytes) → items_from i to 0 ≡ item_numbers bytes i
  unfolding items_from item_numbers
  items_all i to e = let z : to - 0 ≡ item_count (case_of bytes) = omega arith in rw z

  abbrev pub item_row : ℕ → ℕ → List ℕ
  item_row i g = numbers_of (row 6 g i (latest (case_of bytes).G (item_name g) (reverse (lines_of (case_of bytes) (i % thread_count bytes)))) 0 0 ∷ [])

  pub items_more : (i to g : ℕ) → g < to → items_from i to g ≡ item_row i g ++ items_from i to (g + 1)
  unfolding items_from item_rows numbers_of
  items_more i to g h = let e : to - g ≡ suc (to - (g + 1)) = omega arith in rw (e, add-one g)

  pub items_end : (i to g : ℕ) → to ≤ g → items_from i to g ≡ []
  unfolding items_from item_rows numbers_of
  items_end i to g h = let e : to - g ≡ 0 = omega arith in rw e

  abbrev pub item_series : ℕ → ℕ → Series
  item_series i to = record { from = items_from i to; here = item_row i; to = to; more = items_more i to; none = items_end i to }

  -- Block i is of a thread.
  pub block_thread : Accepted bytes → (i T : ℕ) → T ≡ thread_count bytes → i % T < most_threads
  block_thread ok i T e = omega (arith, mod-lt i {m = T} (omega (arith, ok.some_threads)), ok.few_threads)

  -- The 6 of item g, from what is held of the block's thread.
  pub item_put :
      Accepted bytes → (copies : List (List ℕ)) → Held (case_of bytes) copies (thread_count bytes) → (d a : List ℕ) (at i g T copy : ℕ) (w : Row) → g < most_items
      → T ≡ thread_count bytes → copy ≡ held_copy (get_or copies (i % T) []) (item_name g) → w ≡ row 6 g i copy 0 0 → a ≡ numbers_at d at (numbers_of (w ∷ []))
      → Put (item_row i g) d at a (at + 6)
  item_put ok copies held d a at i g T copy w few e_t ec ew ea =
      let low : i % thread_count bytes < thread_count bytes = mod-lt i (omega (arith, ok.some_threads)) in
      let last = held_last (case_of bytes) copies (thread_count bytes) held (i % thread_count bytes) (item_name g) low (omega (arith, ok.few_threads)) (omega arith) in
      rw (← last, ← e_t, ← ec, ← ew) (record { slice = ea; place = omega (arith, six_a_row (w ∷ [])) })

  -- All rows but the goal.
  pub run_parts : run_numbers bytes ≡ all_order_numbers bytes ++ (all_value_numbers bytes ++ all_item_numbers bytes)
  unfolding run_numbers all_order_numbers all_value_numbers all_item_numbers run_rows
  run_parts =
      numbers_of_append (all_order_rows (case_of bytes) 0 (case_of bytes).threads) (all_value_rows (case_of bytes) (case_of bytes).threads ++ block_rows (case_of bytes) 0 (switch_count bytes))
      ∙ ap (λ (xs : List ℕ). numbers_of (all_order_rows (case_of bytes) 0 (case_of bytes).threads) ++ xs)
      (numbers_of_append (all_value_rows (case_of bytes) (case_of bytes).threads) (block_rows (case_of bytes) 0 (switch_count bytes)))

  pub run_size : length (run_numbers bytes) ≡ length (all_order_numbers bytes) + length (all_value_numbers bytes) + length (all_item_numbers bytes)
  run_size =
      omega (
        arith,
        ap length run_parts,
        length-append (all_order_numbers bytes) (all_value_numbers bytes ++ all_item_numbers bytes),
        length-append (all_value_numbers bytes) (all_item_numbers bytes),
      )

  pub run_written :
      {d a b c : List ℕ} {p q r : ℕ} → Put (all_order_numbers bytes) d 0 a p → Put (all_value_numbers bytes) a p b q → Put (all_item_numbers bytes) b q c r
      → Put (run_numbers bytes) d 0 c r
  run_written orders values blocks = rw run_parts (put_then orders (put_then values blocks))

  -- The goal after them.
  table_parts : table_numbers bytes ≡ run_numbers bytes ++ numbers_of (goal_row ∷ [])
  unfolding table_numbers run_numbers table
  table_parts = numbers_of_append (run_rows (case_of bytes)) (goal_row ∷ [])

  pub table_size : length (table_numbers bytes) ≡ length (run_numbers bytes) + 6
  unfolding numbers_of
  table_size = omega (arith, ap length table_parts, length-append (run_numbers bytes) (numbers_of (goal_row ∷ [])))

  pub table_written :
      {d a b : List ℕ} {at : ℕ} → length (table_numbers bytes) ≤ length d → Put (run_numbers bytes) d 0 a at → b ≡ numbers_at a at (numbers_of (goal_row ∷ []))
      → b ≡ written_over (table_numbers bytes) d
  table_written {d} h run goal =
      (put_then run (record { slice = goal; place = refl })).slice ∙ ap (numbers_at d 0) (sym table_parts) ∙ numbers_from_start d (table_numbers bytes) h
