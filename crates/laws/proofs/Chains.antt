-- Laws of chains of records: what their lines are, how long they are, which records they reach.
-- Assumes nothing. Met again in Reached and Lines, and wherever code follows a chain.
use mathlib.Core.Path.{◌≡◌, refl, sym, ap, ◌∙◌, subst}
use Prim.Native.Nat.{ℕ, zero, suc, ◌+◌, ◌≤◌, ◌<◌}
use mathlib.Core.List.{List, [], ◌∷◌}
use native.Mathlib.Omega.{arith}
use native.Mathlib.Nat.{add-zero, zero-add}
use lib.ListN.{get_or, length}
use Rattle.model.specs.CaseFile.{Line, records, thread_count, first_record, next_record, line_of, chain, chains, case_of, lines_of, sum_of_lines, has_number}
use Rattle.laws.specs.RecordNumber.{RecordNumber}
use Rattle.laws.specs.Accepted.{lines_from}
use Rattle.laws.proofs.Views.{EqView, same, diff, eq_view, LtView, below, above, lt_view}
use Rattle.laws.proofs.Counting.{NumbersWithin}

module _ (bytes : List ℕ) where
  pub chain_end : (t most : ℕ) → chain bytes t most 0 ≡ []
  unfolding chain
  chain_end t zero = refl
  chain_end t (suc most) = refl

  pub lines_from_end : (t : ℕ) → lines_from bytes t 0 ≡ []
  lines_from_end t = chain_end t (suc (records bytes))

  -- The thread's number is in the lines, and changes nothing else.
  pub chain_length_any_thread : (t u most k : ℕ) → length (chain bytes t most k) ≡ length (chain bytes u most k)
  unfolding chain
  chain_length_any_thread t u zero k = refl
  chain_length_any_thread t u (suc most) zero = refl
  chain_length_any_thread t u (suc most) (suc k) = ap suc (chain_length_any_thread t u most (next_record bytes (suc k)))

  pub lines_from_length_any_thread : (t u k : ℕ) → length (lines_from bytes t k) ≡ length (lines_from bytes u k)
  lines_from_length_any_thread t u k = chain_length_any_thread t u (suc (records bytes)) k

  pub chain_length_at_most : (t most k : ℕ) → length (chain bytes t most k) ≤ most
  unfolding chain
  chain_length_at_most t zero k = omega arith
  chain_length_at_most t (suc most) zero = omega arith
  chain_length_at_most t (suc most) (suc k) = omega (arith, chain_length_at_most t most (next_record bytes (suc k)))

  -- A chain that ends before its bound is the same under a higher bound.
  pub chain_stable : (t most k : ℕ) → length (chain bytes t most k) < most → chain bytes t (suc most) k ≡ chain bytes t most k
  unfolding chain
  chain_stable t zero k h = absurd (omega arith)
  chain_stable t (suc most) zero h = refl
  chain_stable t (suc most) (suc k) h =
      ap (λ (ls : List Line). line_of bytes t (suc k) ∷ ls) (chain_stable t most (next_record bytes (suc k)) (omega arith))

  chain_more_stable : (t most k more : ℕ) → length (chain bytes t most k) < most → chain bytes t (most + more) k ≡ chain bytes t most k
  chain_more_stable t most k zero h = ap (λ (x : ℕ). chain bytes t x k) (add-zero most)
  chain_more_stable t most k (suc more) h =
      let e = chain_more_stable t most k more h in
      let s : most + suc more ≡ suc (most + more) = omega arith in
      ap (λ (x : ℕ). chain bytes t x k) s ∙ chain_stable t (most + more) k (rw e (omega arith)) ∙ e

  -- The chain from a record of a chain that ends is no longer than it.
  pub suffix_no_longer : (t k most j more : ℕ) → 0 < sum_of_lines (has_number k) (chain bytes t most j) → length (chain bytes t most j) < most
      → length (chain bytes t (most + more) k) ≤ length (chain bytes t most j)
  unfolding chain
  suffix_no_longer t k zero j more h e = absurd (omega arith)
  suffix_no_longer t k (suc most) zero more h e = absurd (omega arith)
  suffix_no_longer t k (suc most) (suc j) more h e = go (eq_view (suc j) k) (suffix_no_longer t k most (next_record bytes (suc j)) (suc more))
    where
      rest : List Line
      rest = chain bytes t most (next_record bytes (suc j))

      go : EqView (suc j) k
          → (0 < sum_of_lines (has_number k) rest → length rest < most → length (chain bytes t (most + suc more) k) ≤ length rest)
          → length (chain bytes t (suc most + more) k) ≤ length (chain bytes t (suc most) (suc j))
      go (same p q) later = rw (← p, chain_more_stable t (suc most) (suc j) more e) (omega arith)
      go (diff p q) later =
          let s : suc most + more ≡ most + suc more = omega arith in
          rw s (omega (arith, later (omega (arith, rw q at h)) (omega arith)))

  pub length_chains : (t many : ℕ) → length (chains bytes t many) ≡ many
  unfolding chains
  length_chains t zero = refl
  length_chains t (suc many) = ap suc (length_chains (suc t) many)

  pub chains_at : (t many j : ℕ) → j < many → get_or (chains bytes t many) j [] ≡ lines_from bytes (t + j) (first_record bytes (t + j))
  unfolding chains
  chains_at t zero j h = absurd (omega arith)
  chains_at t (suc many) zero h = ap (λ (x : ℕ). lines_from bytes x (first_record bytes x)) (sym (add-zero t))
  chains_at t (suc many) (suc j) h = chains_at (suc t) many j (omega arith) ∙ ap (λ (x : ℕ). lines_from bytes x (first_record bytes x)) (omega arith)

  pub chains_beyond : (t many j : ℕ) → many ≤ j → get_or (chains bytes t many) j [] ≡ []
  unfolding chains
  chains_beyond t zero j h = refl
  chains_beyond t (suc many) zero h = absurd (omega arith)
  chains_beyond t (suc many) (suc j) h = chains_beyond (suc t) many j (omega arith)

  pub thread_count_lem : length (case_of bytes).threads ≡ thread_count bytes
  thread_count_lem = length_chains 0 (thread_count bytes)

  pub threads_are : (t : ℕ) → t < thread_count bytes → lines_of (case_of bytes) t ≡ lines_from bytes t (first_record bytes t)
  threads_are t h = chains_at 0 (thread_count bytes) t h ∙ ap (λ (x : ℕ). lines_from bytes x (first_record bytes x)) (zero-add t)

  -- What no lines have and the chains from the first records have, the lines of every thread have.
  pub thread_by : (t : ℕ) (P : List Line → Type 0) → P [] → (t < thread_count bytes → P (lines_from bytes t (first_record bytes t)))
      → P (lines_of (case_of bytes) t)
  thread_by t P none some = go (lt_view t (thread_count bytes))
    where
      go : LtView t (thread_count bytes) → P (lines_of (case_of bytes) t)
      go (below h q) = subst P (sym (threads_are t h)) (some h)
      go (above h q) = subst P (sym (chains_beyond 0 (thread_count bytes) t h)) none

  -- The records that chains reach are from 1 to R where their links are at most R.
  module _ (nexts : (k : ℕ) → 0 < k → k ≤ records bytes → next_record bytes k ≤ records bytes) where
    -- What no lines have and one more record in front keeps, every chain has.
    pub chain_within_by : (t : ℕ) (P : List Line → Type 0) → P []
        → ((k : ℕ) (ls : List Line) → 0 < k → k ≤ records bytes → P ls → P (line_of bytes t k ∷ ls))
        → (most k : ℕ) → k ≤ records bytes → P (chain bytes t most k)
    unfolding chain
    chain_within_by t P none more zero k h = none
    chain_within_by t P none more (suc most) zero h = none
    chain_within_by t P none more (suc most) (suc k) h =
        more (suc k) (chain bytes t most (next_record bytes (suc k))) (omega arith) h
        (chain_within_by t P none more most (next_record bytes (suc k)) (nexts (suc k) (omega arith) h))

    pub chain_within : (t most j : ℕ) → j ≤ records bytes → NumbersWithin (records bytes) (chain bytes t most j)
    chain_within t = chain_within_by t (NumbersWithin (records bytes)) (λ k c. absurd (omega arith)) more
      where
        more : (j : ℕ) (ls : List Line) → 0 < j → j ≤ records bytes → NumbersWithin (records bytes) ls
            → NumbersWithin (records bytes) (line_of bytes t j ∷ ls)
        more j ls low high rest k c = go (eq_view j k)
          where
            go : EqView j k → RecordNumber (records bytes) k
            go (same e q) = record { some = omega arith; low = omega arith }
            go (diff e q) = rest k (omega (arith, rw q at c))
