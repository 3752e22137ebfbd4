-- The lines of an accepted case: which records they are, how many there are, how they are found by number.
-- Assumes nothing. Met again in correspondence's WellFormed and LineFound, and wherever code looks for a record's line.
use mathlib.Core.Path.{◌≡◌, refl}
use Prim.Native.Nat.{ℕ, zero, suc, ◌≤◌, ◌<◌}
use mathlib.Core.List.{List, [], ◌∷◌}
use native.Mathlib.Omega.{arith}
use lib.ListN.{length}
use Rattle.model.specs.Limits.{most_lines}
use Rattle.model.specs.CaseFile.{Line, records, first_record, line_of, case_of, lines_of, sum_of_lines, sum_of_threads, has_number, find_line}
use Rattle.laws.specs.RecordNumber.{RecordNumber}
use Rattle.laws.specs.Accepted.{Accepted, lines_from}
use Rattle.laws.proofs.Counting.{number_is_other}
use Rattle.laws.proofs.Chains.{thread_by, chain_within_by, lines_from_end}
use Rattle.laws.proofs.Reached.{reached_within, reached_at_most_once, some_thread_is_longer}

-- a number that does not occur is not found
pub find_nothing : (k : ℕ) (ls : List Line) (other : Line) → sum_of_lines (has_number k) ls ≡ 0 → find_line k ls other ≡ other
unfolding find_line
find_nothing k [] other e = refl
find_nothing k (l ∷ ls) other e = rw (number_is_other k l (omega (arith, e))) (find_nothing k ls other (omega (arith, e)))

module _ (bytes : List ℕ) (ok : Accepted bytes) where
  pub numbers_within_lem : (k : ℕ) → 0 < sum_of_threads (has_number k) (case_of bytes).threads → RecordNumber (records bytes) k
  numbers_within_lem = reached_within bytes ok.firsts ok.nexts ok.reached_once

  pub numbers_once : (k : ℕ) → sum_of_threads (has_number k) (case_of bytes).threads ≤ 1
  numbers_once = reached_at_most_once bytes ok.firsts ok.nexts ok.reached_once

  pub few_lines_from : (t k : ℕ) → k ≤ records bytes → length (lines_from bytes t k) ≤ most_lines
  few_lines_from t zero h = rw (lines_from_end bytes t) (omega arith)
  few_lines_from t (suc k) h =
      let longer = some_thread_is_longer bytes ok.firsts ok.nexts ok.reached_once t (suc k) (omega arith) h in
      omega (arith, ok.few_lines_lem longer.thread longer.among)

  -- What no lines have and one of the records in front keeps, the lines of every thread have.
  pub thread_lines_by : (t : ℕ) (P : List Line → Type 0) → P [] → ((k : ℕ) (ls : List Line) → 0 < k → k ≤ records bytes → P ls → P (line_of bytes t k ∷ ls))
      → P (lines_of (case_of bytes) t)
  thread_lines_by t P none more =
      thread_by bytes t P none (λ h. chain_within_by bytes ok.nexts t P none more (suc (records bytes)) (first_record bytes t) (ok.firsts t h))
