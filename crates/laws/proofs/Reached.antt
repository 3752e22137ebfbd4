-- Where links are at most R and each record is reached once, no chain is cut off by its bound.
-- Assumes nothing. Met again in Accepted, as its last field, and in Lines.
use mathlib.Core.Path.{◌≡◌, sym, ap, subst}
use Prim.Native.Nat.{ℕ, zero, suc, ◌≤◌, ◌<◌}
use mathlib.Core.List.{List, ◌∷◌}
use native.Mathlib.Omega.{arith}
use native.Mathlib.Nat.{add-zero}
use lib.ListN.{length}
use Rattle.model.specs.CaseFile.{Line, records, thread_count, first_record, next_record, line_of, chain, case_of, lines_of, sum_of_lines, has_number}
use Rattle.model.specs.Accept.{times_reached}
use Rattle.laws.specs.RecordNumber.{RecordNumber}
use Rattle.laws.specs.Accepted.{lines_from}
use Rattle.laws.proofs.Views.{LtView, below, above, lt_view}
use Rattle.laws.proofs.Counting.{NumbersWithin, distinct_lines_are_few, thread_sum_at_most, some_thread_has}
use Rattle.laws.proofs.Chains.{thread_by, chain_within, chain_stable, suffix_no_longer, lines_from_length_any_thread, thread_count_lem, threads_are}

module _ (bytes : List ℕ)
    (firsts : (t : ℕ) → t < thread_count bytes → first_record bytes t ≤ records bytes)
    (nexts : (k : ℕ) → 0 < k → k ≤ records bytes → next_record bytes k ≤ records bytes)
    (once : (k : ℕ) → 0 < k → k ≤ records bytes → times_reached bytes k ≡ 1)
  where
    thread_within : (t : ℕ) → NumbersWithin (records bytes) (lines_of (case_of bytes) t)
    thread_within t = thread_by bytes t (NumbersWithin (records bytes)) (λ k c. absurd (omega arith))
        (λ h. chain_within bytes nexts t (suc (records bytes)) (first_record bytes t) (firsts t h))

    pub reached_within : (k : ℕ) → 0 < times_reached bytes k → RecordNumber (records bytes) k
    reached_within k h =
        let found = some_thread_has (has_number k) (case_of bytes).threads h in
        thread_within found.thread k found.some

    pub reached_at_most_once : (k : ℕ) → times_reached bytes k ≤ 1
    reached_at_most_once k = go (lt_view 0 (times_reached bytes k))
      where
        go : LtView 0 (times_reached bytes k) → times_reached bytes k ≤ 1
        go (below h q) = let within = reached_within k h in omega (arith, once k within.some within.low)
        go (above h q) = omega (arith, h)

    pub thread_has_at_most_r : (t : ℕ) → length (lines_of (case_of bytes) t) ≤ records bytes
    thread_has_at_most_r t =
        distinct_lines_are_few (records bytes) (lines_of (case_of bytes) t) (thread_within t)
        (λ k. omega (arith, reached_at_most_once k, thread_sum_at_most (has_number k) (case_of bytes).threads t))

    -- The lines from a record on are the last lines of some thread.
    pub record Longer (t k : ℕ) : Type 0 where
      pub thread : ℕ
      pub among : thread < thread_count bytes
      pub longer : length (lines_from bytes t k) ≤ length (lines_of (case_of bytes) thread)

    pub some_thread_is_longer : (t k : ℕ) → 0 < k → k ≤ records bytes → Longer t k
    some_thread_is_longer t k low high =
        let found = some_thread_has (has_number k) (case_of bytes).threads (omega (arith, once k low high)) in
        let u = found.thread in
        let inside : u < thread_count bytes = omega (arith, thread_count_lem bytes) in
        let whole = threads_are bytes u inside in
        let counted : 0 < sum_of_lines (has_number k) (lines_from bytes u (first_record bytes u)) =
        subst (λ (ls : List Line). 0 < sum_of_lines (has_number k) ls) whole found.some in
        let longest = ap length whole in
        let shorter = rw (add-zero (suc (records bytes))) at
        (suffix_no_longer bytes u k (suc (records bytes)) (first_record bytes u) 0 counted (omega (arith, longest, thread_has_at_most_r u))) in
        record { thread = u; among = inside; longer = omega (arith, lines_from_length_any_thread bytes t u k, shorter, longest) }

    pub lines_from_are_at_most_r : (t k : ℕ) → 0 < k → k ≤ records bytes → length (lines_from bytes t k) ≤ records bytes
    lines_from_are_at_most_r t k low high =
        let found = some_thread_is_longer t k low high in omega (arith, thread_has_at_most_r found.thread)

    pub chains_go_on : (t k : ℕ) → 0 < k → k ≤ records bytes → lines_from bytes t k ≡ line_of bytes t k ∷ lines_from bytes t (next_record bytes k)
    unfolding chain
    chains_go_on t zero low high = absurd (omega arith)
    chains_go_on t (suc k) low high =
        ap (λ (ls : List Line). line_of bytes t (suc k) ∷ ls)
        (sym (chain_stable bytes t (records bytes) (next_record bytes (suc k)) (omega (arith, lines_from_are_at_most_r t (suc k) low high))))
