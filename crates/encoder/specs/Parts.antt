-- The table of a case in the parts that the code writes, as numbers.
-- Assumes nothing.
use Rattle.std.specs.Prelude.{ℕ, ◌%◌, List, [], reverse}
use Rattle.model.specs.CaseFile.{thread_count, switch_count, case_of, lines_of, item_count}
use Rattle.model.specs.Table.{order_rows, all_order_rows, value_rows, all_value_rows, item_rows, block_rows, run_rows, table, numbers_of}
use Rattle.laws.specs.Accepted.{thread_lines}

-- The 3s, 8s, 1s and 2s of thread t, and of all threads.
unfoldable pub order_numbers : List ℕ → ℕ → List ℕ
order_numbers bytes t = numbers_of (order_rows (case_of bytes) t [] (thread_lines bytes t))

unfoldable pub all_order_numbers : List ℕ → List ℕ
all_order_numbers bytes = numbers_of (all_order_rows (case_of bytes) 0 (case_of bytes).threads)

-- The 4s and 5s of thread t, and of all threads.
unfoldable pub value_numbers : List ℕ → ℕ → List ℕ
value_numbers bytes t = numbers_of (value_rows (case_of bytes) [] (thread_lines bytes t))

unfoldable pub all_value_numbers : List ℕ → List ℕ
all_value_numbers bytes = numbers_of (all_value_rows (case_of bytes) (case_of bytes).threads)

-- The 6s of block i, and of all blocks but the last.
unfoldable pub item_numbers : List ℕ → ℕ → List ℕ
item_numbers bytes i = numbers_of (item_rows (case_of bytes) (reverse (lines_of (case_of bytes) (i % thread_count bytes))) i 0 (item_count (case_of bytes)))

unfoldable pub all_item_numbers : List ℕ → List ℕ
all_item_numbers bytes = numbers_of (block_rows (case_of bytes) 0 (switch_count bytes))

-- All rows but the goal, and all rows.
unfoldable pub run_numbers : List ℕ → List ℕ
run_numbers bytes = numbers_of (run_rows (case_of bytes))

unfoldable pub table_numbers : List ℕ → List ℕ
table_numbers bytes = numbers_of (table (case_of bytes))
