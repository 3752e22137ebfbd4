-- The 6s of a block and of all blocks, and what looking through them starts from.
-- Assumes nothing.
use Rattle.std.specs.Prelude.{ℕ, ◌+◌, ◌%◌, List, reverse}
use Rattle.model.specs.CaseFile.{thread_count, switch_count, case_of, lines_of, item_count}
use Rattle.model.specs.Table.{Row, item_rows, block_rows}
use Rattle.copies.specs.CopyChains.{CopyChains}
use Rattle.assignment.specs.Numbers.{StartOf}
use Rattle.search.specs.Search.{Room}
use Rattle.walk_back.specs.declared.Span.{Span}

abbrev pub sixes_of : List ℕ → ℕ → List Row
sixes_of bytes i = item_rows (case_of bytes) (reverse (lines_of (case_of bytes) (i % thread_count bytes))) i 0 (item_count (case_of bytes))

abbrev pub all_sixes : List ℕ → List Row
all_sixes bytes = block_rows (case_of bytes) 0 (switch_count bytes)

-- Some 6s of a case: the chains have all its copies, and there are numbers for the 6s from `start` on.
pub record SixesReady (bytes previous : List ℕ) (latest : List (List ℕ)) (start : ℕ) (rows : List Row) : Type 0 where
  pub chains : CopyChains (case_of bytes) latest previous (thread_count bytes)
  pub numbers : Room start rows

-- The 6s of a block, with the items' values where it starts and where the next one does.
pub record SpanReady (bytes xs previous : List ℕ) (latest : List (List ℕ)) (span : Span) : Type 0 where
  pub ready : SixesReady bytes previous latest span.start (sixes_of bytes span.block)
  pub before : StartOf bytes xs span.block span.before
  pub after : StartOf bytes xs (span.block + 1) span.after
