-- The 4s and 5s of a thread and of all threads, and the order of block numbers that they need.
-- Assumes nothing.
use Rattle.std.specs.Prelude.{ℕ, List, []}
use Rattle.model.specs.CaseFile.{case_of}
use Rattle.model.specs.Assignment.{assignment_of}
use Rattle.model.specs.Table.{Row, all_order_rows, value_rows, all_value_rows}
use Rattle.laws.specs.Accepted.{thread_lines}
use Rattle.laws.specs.Order.{Ordered}
use Rattle.laws.specs.AllHold.{AllHold}

abbrev pub thread_values : List ℕ → ℕ → List Row
thread_values bytes t = value_rows (case_of bytes) [] (thread_lines bytes t)

abbrev pub all_values : List ℕ → List Row
all_values bytes = all_value_rows (case_of bytes) (case_of bytes).threads

-- What is kept along a thread is what its lines read only where block numbers are in order.
abbrev pub ThreadOrdered : List ℕ → List ℕ → ℕ → Type 0
ThreadOrdered bytes xs t = Ordered (case_of bytes) (assignment_of (case_of bytes) xs).block t 0 (thread_lines bytes t)

abbrev pub AllOrdered : List ℕ → List ℕ → Type 0
AllOrdered bytes xs = AllHold (case_of bytes) (assignment_of (case_of bytes) xs) (all_order_rows (case_of bytes) 0 (case_of bytes).threads)
