-- An accepted case is well formed.
-- Assumes nothing. Met again in Demand3 and KindByKind.
use Prim.Native.Nat.{ℕ, ◌+◌, ◌*◌, ◌≤◌, ◌<◌}
use mathlib.Core.List.{List}
use native.Mathlib.Omega.{arith}
use lib.ListN.{replicate, length-append, length-replicate}
use Rattle.model.specs.Word.{word_size, AllBelow}
use Rattle.model.specs.Lists.{numbers_from}
use Rattle.model.specs.CaseFile.{Line, field, records, thread_count, global_count, mutex_count, initial_value, line_of, case_of, lines_of}
use Rattle.laws.specs.Accepted.{Accepted}
use Rattle.laws.proofs.Below.{below_at, all_below_append, all_below_replicate, all_below_numbers_from}
use Rattle.laws.proofs.Ranges.{length_numbers_from}
use Rattle.laws.proofs.Views.{LtView, below, above, lt_view}
use Rattle.laws.proofs.Chains.{thread_by, thread_count_lem}
use Rattle.laws.proofs.Lines.{numbers_within_lem, numbers_once, thread_lines_by}
use Rattle.laws.specs.Order.{AllLines, Positive}
use Rattle.correspondence.specs.Meaning.{SmallLine, WellFormed}

pub field_below : (bytes : List ℕ) → AllBelow 256 bytes → (j : ℕ) → field bytes j < word_size
unfolding field
field_below bytes small j =
    omega (arith, below_at 256 bytes (omega arith) small (2 * j), below_at 256 bytes (omega arith) small (2 * j + 1))

-- What every record has as a line of thread t, if there is that thread, every line of thread t has.
pub all_lines_by : (bytes : List ℕ) → Accepted bytes → (P : Line → Type 0) (t : ℕ)
    → ((k : ℕ) → t < thread_count bytes → 0 < k → k ≤ records bytes → P (line_of bytes t k)) → AllLines P (lines_of (case_of bytes) t)
all_lines_by bytes ok P t each = go (lt_view t (thread_count bytes))
  where
    go : LtView t (thread_count bytes) → AllLines P (lines_of (case_of bytes) t)
    go (below h q) = thread_lines_by bytes ok t (AllLines P) tt (λ k ls low high rest. (each k h low high, rest))
    go (above h q) = thread_by bytes t (AllLines P) tt (λ few. absurd (omega arith))

pub well_formed : (bytes : List ℕ) → AllBelow 256 bytes → Accepted bytes → WellFormed (case_of bytes)
well_formed bytes small ok = record {
  some_thread = omega (arith, ok.some_threads);
  thread_count_lem = thread_count_lem bytes;
  item_count_lem = omega (
    arith,
    length-append globals mutexes,
    length_numbers_from (initial_value bytes) 0 (global_count bytes),
    length-replicate {A = ℕ} (mutex_count bytes) 0,
  );
  few_items = omega (arith, ok.few_globals, ok.few_mutexes);
  few_blocks = omega (arith, ok.few_switches);
  positive = λ t. all_lines_by bytes ok Positive t (λ k thread low high. low);
  once = numbers_once bytes ok;
  known = λ k low high. omega (arith, ok.reached_once k low high);
  within = numbers_within_lem bytes ok;
  small_lines_lem = λ t. all_lines_by bytes ok SmallLine t (λ k thread low high. record {
    constant = field_below bytes small (8 + 8 * k + 7);
    holding = omega (arith, thread, ok.few_threads);
  });
  small_initial = all_below_append word_size globals mutexes
      (all_below_numbers_from word_size (initial_value bytes) 0 (global_count bytes) (λ g. field_below bytes small (8 + g)))
      (all_below_replicate word_size (mutex_count bytes) 0 (omega arith));
}
  where
    globals : List ℕ
    globals = numbers_from (initial_value bytes) 0 (global_count bytes)

    mutexes : List ℕ
    mutexes = replicate (mutex_count bytes) 0
