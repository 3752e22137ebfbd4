-- The script of a case from its table, and what the call that writes it gives.
-- Assumes nothing.
use Rattle.std.specs.Prelude.{◌≡◌, ℕ, List, length, Result, Ok}
use Rattle.model.specs.CaseFile.{case_of}
use Rattle.model.specs.Accept.{verdict}
use Rattle.model.specs.Assignment.{variables}
use Rattle.model.specs.Table.{table}
use Rattle.model.specs.declared.Refusal.{Refusal}
use Rattle.smt.specs.Term.{Formula}
use Rattle.script.specs.Assertions.{sources_of, assertions_of}
use Rattle.script.specs.Text.{spelled, spelled_into}
use Rattle.walk_text.specs.Previous.{HasTable}

-- The assertions of a case's table.
abbrev pub table_assertions : List ℕ → List Formula
table_assertions bytes = assertions_of (case_of bytes) (sources_of (case_of bytes)) (table (case_of bytes))

-- The table of a case that the calls take: so many rows in a slice, over so many variables.
pub record ScriptHanded (bytes xs : List ℕ) (constraints many : ℕ) : Type 0 where
  pub taken : verdict bytes ≡ Ok tt
  pub has : HasTable (case_of bytes) xs constraints
  pub declared : many ≡ variables (case_of bytes)

-- The answer, and the slice after it.
pub record TextGiven (bytes before after : List ℕ) (r : Result ℕ Refusal) : Type 0 where
  pub answer : r ≡ spelled bytes (length before)
  pub slice : after ≡ spelled_into bytes before
