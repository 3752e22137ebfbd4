-- What checks 1 to 9 give: everything that the theorem and the calls need of an accepted case. That acceptance gives it is
-- `accepted_of` of proofs/Accepted.antt.
-- Assumes nothing.
use Rattle.std.specs.Prelude.{◌≡◌, ℕ, suc, ◌+◌, ◌*◌, ◌≤◌, ◌<◌, true, List, ◌∷◌, length}
use Rattle.model.specs.Limits.{least_threads, most_threads, most_switches, most_globals, most_mutexes, most_lines, most_records, header_bytes, record_bytes}
use Rattle.model.specs.CaseFile.{Line, records, thread_count, switch_count, global_count, mutex_count, first_record, next_record, line_of, chain, case_of, lines_of}
use Rattle.model.specs.Accept.{times_reached, rule_ok}

-- The lines of thread t from record k on, to the end of the chain: in an accepted case the bound of `chain` cuts nothing off.
abbrev pub lines_from : List ℕ → ℕ → ℕ → List Line
lines_from bytes t k = chain bytes t (suc (records bytes)) k

-- The lines of thread t.
abbrev pub thread_lines : List ℕ → ℕ → List Line
thread_lines bytes t = lines_from bytes t (first_record bytes t)

pub record Accepted (bytes : List ℕ) : Type 0 where
  pub size : length bytes ≡ header_bytes + record_bytes * records bytes
  pub few_records : records bytes ≤ most_records
  pub some_threads : least_threads ≤ thread_count bytes
  pub few_threads : thread_count bytes ≤ most_threads
  pub few_switches : switch_count bytes ≤ most_switches
  pub few_globals : global_count bytes ≤ most_globals
  pub few_mutexes : mutex_count bytes ≤ most_mutexes
  pub firsts : (t : ℕ) → t < thread_count bytes → first_record bytes t ≤ records bytes
  pub nexts : (k : ℕ) → 0 < k → k ≤ records bytes → next_record bytes k ≤ records bytes
  pub reached_once : (k : ℕ) → 0 < k → k ≤ records bytes → times_reached bytes k ≡ 1
  pub few_lines_lem : (t : ℕ) → t < thread_count bytes → length (lines_of (case_of bytes) t) ≤ most_lines
  pub rules : (k : ℕ) → 0 < k → k ≤ records bytes → rule_ok bytes k ≡ true
  pub lines_go_on : (t k : ℕ) → 0 < k → k ≤ records bytes → lines_from bytes t k ≡ line_of bytes t k ∷ lines_from bytes t (next_record bytes k)
