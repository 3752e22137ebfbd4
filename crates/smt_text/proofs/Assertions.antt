-- The assertions of a table one after the other, and the whole text. Assumes nothing. Met again in `put_assertion`, `put_assertions` and
-- `write_script`.
use mathlib.Core.Path.{◌≡◌, refl}
use Prim.Native.Nat.{ℕ, ◌+◌, ◌≤◌, ◌<◌}
use mathlib.Core.List.{List, [], ◌++◌}
use native.Mathlib.Omega.{arith}
use native.Mathlib.Numerals.{add-one}
use lib.ListN.{drop, drop_of_length-le}
use Rattle.model.specs.CaseFile.{case_of}
use Rattle.model.specs.Table.{Row, table}
use Rattle.smt.specs.Term.{Formula}
use Rattle.smt.specs.Spelling.{ascii, formula_text, logic_line, declarations, assertion, assertion_lines, question_line, script_text}
use Rattle.script.specs.Assertions.{sources_of, assertions_of, script_of}
use Rattle.script.specs.Text.{smt_text}
use Rattle.spell.specs.Spelt.{top, Puts}
use Rattle.spell.specs.declared.Writer.{Writer}
use Rattle.spell.proofs.Spelling.{Remains, left_start, left_more, left_end, puts_then}
use Rattle.laws.specs.Accepted.{Accepted}
use Rattle.walk_text.specs.Previous.{HasTable}
use Rattle.walk_text.specs.Walk.{PreviousCopies}
use Rattle.line_threads.specs.Threads.{row_at}
use Rattle.line_threads.proofs.TableRows.{table_row}
use Rattle.smt_text.specs.Rows.{row_assertion, RowKnown}
use Rattle.smt_text.specs.Script.{table_assertions, ScriptHanded}
use Rattle.smt_text.proofs.TableRows.{row_known}

pub assertion_spelt : {d a b e : Writer} (f : Formula) → Puts (ascii "(assert ") d a → Puts (formula_text f) a b
    → Puts (ascii ")\n") b e → Puts (assertion f) d e
unfolding assertion
assertion_spelt f word formula close = puts_then word (puts_then formula close)

-- Row j can be written.
pub row_handed : {bytes xs : List ℕ} {count : ℕ} → Accepted bytes → HasTable (case_of bytes) xs count → {previous : List ℕ} {j : ℕ} {w : Row}
    → PreviousCopies (case_of bytes) previous → j < count → w ≡ row_at xs j → RowKnown bytes previous w
row_handed ok has {j = j} before below e = rw e (row_known ok has before j below)

-- The loop over the rows, at row j.
abbrev lines_from : List ℕ → ℕ → List ℕ
lines_from bytes j = assertion_lines (assertions_of (case_of bytes) (sources_of (case_of bytes)) (drop j (table (case_of bytes))))

pub record Asserting (bytes : List ℕ) (before after : Writer) (j : ℕ) : Type 0 where
  pub left : Remains (assertion_lines (table_assertions bytes)) before after (lines_from bytes j)

pub asserting_start : {bytes : List ℕ} {before : Writer} → before.at ≤ top → Asserting bytes before before 0
asserting_start h = record { left = left_start h refl }

module _ {bytes xs : List ℕ} {count : ℕ} (has : HasTable (case_of bytes) xs count) {before after : Writer} {j : ℕ} (v : Asserting bytes before after j) where
  pub asserting_more : j < count → {w : Row} {then : Writer} → w ≡ row_at xs j → Puts (assertion (row_assertion bytes w)) after then → Asserting bytes before then (j + 1)
  unfolding assertion_lines assertions_of
  asserting_more below {w} e put = record { left = left_more v.left one put }
    where
      one : lines_from bytes j ≡ assertion (row_assertion bytes w) ++ lines_from bytes (j + 1)
      one = rw (e, add-one j, table_row has j below)

  pub asserting_end : count ≤ j → Puts (assertion_lines (table_assertions bytes)) before after
  unfolding assertion_lines assertions_of
  asserting_end past = left_end v.left none
    where
      none : lines_from bytes j ≡ []
      none = rw (drop_of_length-le (table (case_of bytes)) {i = j} (omega (arith, has.rows)))

-- The logic, the declarations, the assertions and the question.
pub script_spelt : {bytes xs : List ℕ} {constraints many : ℕ} {d a b e f : Writer} → ScriptHanded bytes xs constraints many
    → Puts logic_line d a → Puts (declarations 0 many) a b → Puts (assertion_lines (table_assertions bytes)) b e
    → Puts question_line e f → Puts (smt_text bytes) d f
unfolding smt_text script_text script_of
script_spelt h logic declared asserted question = puts_then logic (puts_then (rw h.declared at declared) (puts_then asserted question))
