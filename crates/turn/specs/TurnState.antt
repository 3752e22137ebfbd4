-- A thread's turn as the code holds it, and what it stands for in the machine.
-- Assumes nothing.
use Rattle.std.specs.Prelude.{ℕ, List, get_or, take}
use Rattle.model.specs.CaseFile.{Line, case_of, item_count}
use Rattle.model.specs.Machine.{Memory}
use Rattle.laws.specs.Accepted.{lines_from}
use Rattle.turn.specs.declared.Turn.{Turn}

abbrev pub items_of : List ℕ → List ℕ → List ℕ
items_of bytes items = take (item_count (case_of bytes)) items

abbrev pub memory_of : List ℕ → Turn → Memory
memory_of bytes turn = record { locals = turn.locals; items = items_of bytes turn.items }

-- The lines that are left, as lines of thread t.
abbrev pub lines_left : List ℕ → ℕ → Turn → List Line
lines_left bytes t turn = lines_from bytes t turn.next

-- The values given, by record number.
abbrev pub given_by : List ℕ → ℕ → ℕ
given_by givens k = get_or givens k 0
