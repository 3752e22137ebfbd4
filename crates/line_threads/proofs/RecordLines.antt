-- The lines of an accepted case are its records, each as a line of its thread.
-- Assumes nothing. Met again in Noted and RowLines, in `line_of`, and where the text of a line needs its thread.
use mathlib.Core.Path.{◌≡◌, refl, sym, ap, ◌∙◌}
use Prim.Native.Nat.{ℕ, ◌≤◌, ◌<◌}
use mathlib.Core.List.{List, [], ◌∷◌}
use native.Mathlib.Omega.{arith}
use lib.ListN.{get_or}
use Rattle.model.specs.Limits.{most_threads}
use Rattle.model.specs.CaseFile.{Line, records, line_of, case_of, lines_of, sum_of_lines, has_number, line_at}
use Rattle.laws.specs.Accepted.{Accepted}
use Rattle.laws.specs.Order.{AllLines}
use Rattle.laws.specs.RecordNumber.{RecordNumber}
use Rattle.laws.proofs.Views.{EqView, same, diff, eq_view}
use Rattle.laws.proofs.Counting.{some_thread_has}
use Rattle.laws.proofs.AllLines.{all_lines_map}
use Rattle.laws.proofs.Chains.{thread_count_lem}
use Rattle.laws.proofs.Lines.{numbers_once, thread_lines_by}
use Rattle.laws.proofs.LineFound.{line_found}
use Rattle.case_file.specs.Records.{record_of, as_line}
use Rattle.case_file.specs.declared.Record.{Record}
use Rattle.line_threads.specs.Threads.{HasThreads}

module _ {bytes : List ℕ} (ok : Accepted bytes) where
  -- What holds of each record as a line of thread t, each line of thread t has.
  by_record : (t : ℕ) (P : Line → Type 0) → ((k : ℕ) → 0 < k → k ≤ records bytes → P (line_of bytes t k)) → AllLines P (lines_of (case_of bytes) t)
  by_record t P each = thread_lines_by bytes ok t (AllLines P) tt (λ k ls low high rest. (each k low high, rest))

  pub lines_are_records : (t : ℕ) → AllLines (λ l. RecordNumber (records bytes) l.number) (lines_of (case_of bytes) t)
  lines_are_records t = by_record t _ (λ k low high. record { some = low; low = high })

  lines_are_own : (t : ℕ) → AllLines (λ l. l ≡ line_of bytes t l.number) (lines_of (case_of bytes) t)
  lines_are_own t = by_record t _ (λ k low high. refl)

  -- The line that a number of the thread finds has the thread.
  found_own : (t : ℕ) (ls : List Line) → AllLines (λ l. line_at (case_of bytes) l.number ≡ l) ls → AllLines (λ l. l ≡ line_of bytes t l.number) ls
      → AllLines (λ l. line_at (case_of bytes) l.number ≡ line_of bytes t l.number) ls
  found_own t [] found own = tt
  found_own t (l ∷ ls) found own = (found.0 ∙ own.0, found_own t ls found.1 own.1)

  found_lines : (t : ℕ) → AllLines (λ l. line_at (case_of bytes) l.number ≡ line_of bytes t l.number) (lines_of (case_of bytes) t)
  found_lines t = found_own t (lines_of (case_of bytes) t) (line_found (case_of bytes) (numbers_once bytes ok) t) (lines_are_own t)

  pub found_threads : (t : ℕ) → AllLines (λ l. (line_at (case_of bytes) l.number).thread ≡ t) (lines_of (case_of bytes) t)
  found_threads t = all_lines_map _ _ (lines_of (case_of bytes) t) (λ l e. ap (λ (x : Line). x.thread) e) (found_lines t)

  found_record : (t k : ℕ) (ls : List Line) → AllLines (λ l. line_at (case_of bytes) l.number ≡ line_of bytes t l.number) ls
      → 0 < sum_of_lines (has_number k) ls → line_at (case_of bytes) k ≡ line_of bytes t k
  found_record t k [] found some = absurd (omega arith)
  found_record t k (l ∷ ls) found some = go (eq_view l.number k) (found_record t k ls found.1)
    where
      go : EqView l.number k → (0 < sum_of_lines (has_number k) ls → line_at (case_of bytes) k ≡ line_of bytes t k) → line_at (case_of bytes) k ≡ line_of bytes t k
      go (same e q) rest = rw (← e) found.0
      go (diff e q) rest = rest (omega (arith, rw q at some))

  -- A line is the record of its number in one of the threads.
  record InThread (k : ℕ) : Type 0 where
    thread : ℕ
    few : thread < most_threads
    is : line_at (case_of bytes) k ≡ line_of bytes thread k

  in_thread : (k : ℕ) → 0 < k → k ≤ records bytes → InThread k
  in_thread k low high =
      let has = some_thread_has (has_number k) (case_of bytes).threads (omega (arith, ok.reached_once k low high)) in
      record {
        thread = has.thread;
        few = omega (arith, has.among, thread_count_lem bytes, ok.few_threads);
        is = found_record has.thread k (lines_of (case_of bytes) has.thread) (found_lines has.thread) has.some;
      }

  -- A record with the thread of its line is its line.
  record_is_line : (k : ℕ) → 0 < k → k ≤ records bytes → as_line (record_of bytes (line_at (case_of bytes) k).thread k) k ≡ line_at (case_of bytes) k
  record_is_line k low high = let e = (in_thread k low high).is in ap (λ (l : Line). line_of bytes l.thread k) e ∙ sym e

module _ {bytes : List ℕ} (ok : Accepted bytes) {k : ℕ} (is : RecordNumber (records bytes) k) where
  pub line_there : (threads : List ℕ) → HasThreads (case_of bytes) threads → {t : ℕ} {l : Record} → t ≡ get_or threads k 0 → l ≡ record_of bytes t k → as_line l k ≡ line_at (case_of bytes) k
  line_there threads lines et el =
      rw (el, et, lines k is.some is.low)
      (record_is_line ok k is.some is.low)

  -- There are at most so many threads.
  pub thread_low : (l : Record) → as_line l k ≡ line_at (case_of bytes) k → l.thread < most_threads
  thread_low l e =
      let has = in_thread ok k is.some is.low in
      omega (arith, ap (λ (m : Line). m.thread) (e ∙ has.is), has.few)
