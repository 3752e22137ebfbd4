-- The assertion of a row by its kind. Assumes nothing. Met again in `put_row`.
use mathlib.Core.Path.{◌≡◌}
use mathlib.Core.Logic.{◌≢◌}
use Prim.Native.Nat.{ℕ, suc, ◌≤◌}
use mathlib.Core.List.{List}
use native.Mathlib.Omega.{arith}
use borrow.Author.Tests.{ne_eqb}
use Rattle.model.specs.Limits.{most_lines}
use Rattle.model.specs.CaseFile.{records, case_of, line_at}
use Rattle.model.specs.Table.{Row}
use Rattle.smt.specs.Term.{bvurem, bvule, disjunction, constant, apply, test, join}
use Rattle.smt.specs.Spelling.{ascii, formula_text}
use Rattle.script.specs.Assertions.{equal, block_of, sources_of, not_run, value_assertion, demand_assertion, some_thread_breaks, assertion_of}
use Rattle.spell.specs.declared.Writer.{Writer}
use Rattle.spell.specs.Spelt.{Puts}
use Rattle.laws.specs.RecordNumber.{RecordNumber}
use Rattle.line_threads.specs.Threads.{RowOf}
use Rattle.walk_text.specs.Walk.{walk_copies}
use Rattle.smt_text.specs.Rows.{row_assertion, RowKnown}

-- The line of a 4 or a 5.
pub line_numbered : {bytes previous : List ℕ} {w : Row} {kind : ℕ} → RowKnown bytes previous w → w.kind ≡ kind → kind ≤ 5 → RecordNumber (records bytes) w.one
line_numbered known e low = known.of.line (omega (arith, e))

-- What is spelled for a kind is the row's assertion.

abbrev RowSpelt : List ℕ → Row → Writer → Writer → Type 0
RowSpelt bytes w d a = Puts (formula_text (row_assertion bytes w)) d a

module _ (bytes : List ℕ) (w : Row) {d a : Writer} where
  pub follows_spelt : w.kind ≡ 1 → Puts (formula_text (test bvule (block_of w.one) (block_of w.two))) d a → RowSpelt bytes w d a
  unfolding assertion_of
  follows_spelt e put = rw e put

  pub last_spelt : RowOf (case_of bytes) w → w.kind ≡ 2 → Puts (formula_text (test bvule (block_of w.one) (constant (suc (case_of bytes).n)))) d a
      → RowSpelt bytes w d a
  unfolding assertion_of
  last_spelt of e put = rw (e, of.last e) put

  pub thread_spelt : w.kind ≡ 3
      → Puts (formula_text (join disjunction (not_run (case_of bytes) w.one) (equal (apply bvurem (block_of w.one) (constant w.two)) (constant w.three)))) d a
      → RowSpelt bytes w d a
  unfolding assertion_of
  thread_spelt e put = rw e put

  pub value_spelt : w.kind ≡ 4 → Puts (formula_text (value_assertion (case_of bytes) (sources_of (case_of bytes)) w.one w.two w.three w.four w.five)) d a
      → RowSpelt bytes w d a
  unfolding assertion_of
  value_spelt e put = rw e put

  pub demand_spelt : w.kind ≡ 5
      → Puts (formula_text (join disjunction (not_run (case_of bytes) w.one) (demand_assertion (line_at (case_of bytes) w.one).kind (case_of bytes) (sources_of (case_of bytes)) (line_at (case_of bytes) w.one) w.two w.three))) d a
      → RowSpelt bytes w d a
  unfolding assertion_of
  demand_spelt e put = rw e put

  pub walk_spelt : {previous : List ℕ} → RowKnown bytes previous w → w.kind ≡ 6
      → Puts (formula_text (walk_copies (case_of bytes) (sources_of (case_of bytes)) w.two w.one previous most_lines w.three)) d a → RowSpelt bytes w d a
  walk_spelt known e put = rw (known.walk e) at put

  pub goal_spelt : w.kind ≡ 7 → Puts (formula_text (some_thread_breaks (case_of bytes) (sources_of (case_of bytes)) (case_of bytes).threads)) d a → RowSpelt bytes w d a
  unfolding assertion_of
  goal_spelt e put = rw e put

  pub stay_spelt : w.kind ≡ 8
      → Puts (formula_text (join disjunction (not_run (case_of bytes) w.one) (equal (block_of w.one) (block_of w.two)))) d a → RowSpelt bytes w d a
  unfolding assertion_of
  stay_spelt e put = rw e put

  -- the test of a kind leaves what it is not
  pub other_spelt : (((((((Unit {0} × w.kind ≢ 1) × w.kind ≢ 2) × w.kind ≢ 3) × w.kind ≢ 4) × w.kind ≢ 5) × w.kind ≢ 6) × w.kind ≢ 7) × w.kind ≢ 8
      → Puts (ascii "false") d a → RowSpelt bytes w d a
  unfolding assertion_of formula_text
  other_spelt n put =
      rw (
        ne_eqb w.kind 3 n.0.0.0.0.0.1,
        ne_eqb w.kind 8 n.1,
        ne_eqb w.kind 1 n.0.0.0.0.0.0.0.1,
        ne_eqb w.kind 2 n.0.0.0.0.0.0.1,
        ne_eqb w.kind 4 n.0.0.0.0.1,
        ne_eqb w.kind 5 n.0.0.0.1,
        ne_eqb w.kind 6 n.0.0.1,
        ne_eqb w.kind 7 n.0.1,
      ) put
