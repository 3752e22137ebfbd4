-- The threads of a case's lines, the rows of a table, and what the rows of a case's table have of the case.
-- Assumes nothing.
use Rattle.std.specs.Prelude.{◌≡◌, ℕ, ◌+◌, ◌*◌, ◌≤◌, ◌<◌, List, [], ◌∷◌, get_or}
use Rattle.model.specs.CaseFile.{Case, records, case_of, line_at}
use Rattle.model.specs.Table.{Row, row}
use Rattle.laws.specs.Accepted.{Accepted}
use Rattle.laws.specs.RecordNumber.{RecordNumber}
use Rattle.linked.specs.Shape.{HasFrame}
use Rattle.linked.specs.declared.Frame.{Frame}
use Rattle.walk_text.specs.Previous.{HasTable}

-- `threads` has for each line of a case, by record number, its thread.
abbrev pub HasThreads : Case → List ℕ → Type 0
HasThreads case threads = (k : ℕ) → 0 < k → k ≤ case.R → get_or threads k 0 ≡ (line_at case k).thread

-- Line k is there, and its thread is known.
pub record LineThere (bytes threads : List ℕ) (k : ℕ) : Type 0 where
  pub accepted : Accepted bytes
  pub lines : HasThreads (case_of bytes) threads
  pub number : RecordNumber (records bytes) k

-- A case's frame, its table, so many rows in a slice, and its lines' threads.
pub record CaseHanded (bytes : List ℕ) (frame : Frame) (xs : List ℕ) (count : ℕ) (threads : List ℕ) : Type 0 where
  pub framed : HasFrame (case_of bytes) frame
  pub has : HasTable (case_of bytes) xs count
  pub lines : HasThreads (case_of bytes) threads

-- Row j of the numbers of a table.
abbrev pub row_at : List ℕ → ℕ → Row
row_at xs j = row (get_or xs (6 * j) 0) (get_or xs (6 * j + 1) 0) (get_or xs (6 * j + 2) 0) (get_or xs (6 * j + 3) 0) (get_or xs (6 * j + 4) 0) (get_or xs (6 * j + 5) 0)

-- A 1 to 5 has a record number, from 1 to R, as its line, and a 2 has n.
pub record RowOf (case : Case) (w : Row) : Type 0 where
  pub line : w.kind ≤ 5 → RecordNumber case.R w.one
  pub last : w.kind ≡ 2 → w.two ≡ case.n

abbrev pub RowsOf : Case → List Row → Type 0
RowsOf case [] = Unit
RowsOf case (w ∷ ws) = RowOf case w × RowsOf case ws
