-- A row of a case's table, and what is known where its assertion is written.
-- Assumes nothing.
use Rattle.std.specs.Prelude.{◌≡◌, ℕ, List}
use Rattle.model.specs.Limits.{most_lines}
use Rattle.model.specs.CaseFile.{case_of}
use Rattle.model.specs.Table.{Row}
use Rattle.smt.specs.Term.{Formula}
use Rattle.script.specs.Assertions.{sources_of, assertion_of}
use Rattle.line_threads.specs.Threads.{RowOf}
use Rattle.walk_text.specs.Walk.{walk_copies}

-- The assertion of a row of a case.
abbrev pub row_assertion : List ℕ → Row → Formula
row_assertion bytes w = assertion_of (case_of bytes) (sources_of (case_of bytes)) w

-- What a row has of its case; and a 6 has the walk over the copies before each line as its assertion.
pub record RowKnown (bytes previous : List ℕ) (w : Row) : Type 0 where
  pub of : RowOf (case_of bytes) w
  pub walk : w.kind ≡ 6 → walk_copies (case_of bytes) (sources_of (case_of bytes)) w.two w.one previous most_lines w.three ≡ row_assertion bytes w
