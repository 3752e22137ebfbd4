-- What the lines of an accepted case add up to is what its records add up to: each record is in one chain, once.
-- Assumes nothing. Met again where code counts constraints or inputs record by record.
use mathlib.Core.Path.{◌≡◌, refl, sym, ◌∙◌}
use Prim.Native.Nat.{ℕ, zero, suc, ◌+◌, ◌-◌, ◌*◌, ◌≤◌, ◌<◌}
use mathlib.Core.List.{List, ◌∷◌}
use native.Mathlib.Omega.{arith}
use native.Mathlib.Nat.{zero-mul, one-mul, add-mul}
use native.Mathlib.Numerals.{add-one}
use borrow.Author.Tests.{ne_eqb}
use lib.Dec.{eqb}
use Rattle.model.specs.Word.{bit}
use Rattle.model.specs.CaseFile.{Line, records, thread_count, first_record, line_of, chain, chains, sum_of_lines, sum_of_threads, has_number}
use Rattle.laws.specs.Accepted.{Accepted}
use Rattle.laws.proofs.Chains.{chain_within_by}
use Rattle.laws.proofs.Counting.{sum_from}
use Rattle.laws.proofs.Views.{EqView, same, diff, eq_view}

-- The records' numbers f, each as often as it is counted.
module _ (f : ℕ → ℕ) where
  abbrev times_from : (ℕ → ℕ) → ℕ → ℕ → ℕ
  times_from count = sum_from (λ k. count k * f k)

  never_counted : (i many : ℕ) → times_from (λ k. 0) i many ≡ 0
  never_counted i zero = refl
  never_counted i (suc many) = omega (arith, zero-mul (f i), never_counted (suc i) many)

  counted_once : (count : ℕ → ℕ) (i many : ℕ) → ((k : ℕ) → i ≤ k → k < i + many → count k ≡ 1) → times_from count i many ≡ sum_from f i many
  counted_once count i zero h = refl
  counted_once count i (suc many) h =
      let here : count i * f i ≡ f i = rw (h i (omega arith) (omega arith)) (one-mul (f i)) in
      omega (arith, here, counted_once count (suc i) many (λ k low high. h k (omega arith) (omega arith)))

  counts_add : (a b : ℕ → ℕ) (i many : ℕ) → times_from (λ k. a k + b k) i many ≡ times_from a i many + times_from b i many
  counts_add a b i zero = refl
  counts_add a b i (suc many) = omega (arith, add-mul (a i) (b i) (f i), counts_add a b (suc i) many)

  not_yet : (x i many : ℕ) → x < i → times_from (λ k. bit (eqb x k)) i many ≡ 0
  not_yet x i zero h = refl
  not_yet x i (suc many) h = rw (ne_eqb x i (λ e. omega arith)) (omega (arith, zero-mul (f i), not_yet x (suc i) many (omega arith)))

  one_number : (x i many : ℕ) → i ≤ x → x < i + many → times_from (λ k. bit (eqb x k)) i many ≡ f x
  one_number x i zero h h' = absurd (omega arith)
  one_number x i (suc many) h h' = go (eq_view x i) (one_number x (suc i) many)
    where
      go : EqView x i → (suc i ≤ x → x < suc i + many → times_from (λ k. bit (eqb x k)) (suc i) many ≡ f x) → times_from (λ k. bit (eqb x k)) i (suc many) ≡ f x
      go (same e q) rest = rw (q, e) (omega (arith, one-mul (f i), not_yet x (suc i) many (omega (arith, e))))
      go (diff e q) rest = rw q (omega (arith, zero-mul (f i), rest (omega arith) (omega arith)))

  -- the lines of a chain, of so many threads, and of all
  module _ (bytes : List ℕ) (ok : Accepted bytes) (weight : Line → ℕ) (same_weight : (t k : ℕ) → weight (line_of bytes t k) ≡ f k) where
    abbrev AddsUp : List Line → Type 0
    AddsUp ls = sum_of_lines weight ls ≡ times_from (λ k. sum_of_lines (has_number k) ls) 1 (records bytes)

    chain_adds_up : (t most k : ℕ) → k ≤ records bytes → AddsUp (chain bytes t most k)
    chain_adds_up t = chain_within_by bytes ok.nexts t AddsUp (sym (never_counted 1 (records bytes))) more
      where
        more : (k : ℕ) (ls : List Line) → 0 < k → k ≤ records bytes → AddsUp ls → AddsUp (line_of bytes t k ∷ ls)
        more k ls low high rest =
            omega (
              arith,
              same_weight t k,
              one_number k 1 (records bytes) low (omega arith),
              rest,
              counts_add (λ j. bit (eqb k j)) (λ j. sum_of_lines (has_number j) ls) 1 (records bytes),
            )

    threads_add_up :
        (t many : ℕ) → t + many ≤ thread_count bytes →
        sum_of_threads weight (chains bytes t many) ≡ times_from (λ k. sum_of_threads (has_number k) (chains bytes t many)) 1 (records bytes)
    unfolding chains
    threads_add_up t zero h = sym (never_counted 1 (records bytes))
    threads_add_up t (suc many) h =
        omega (
          arith,
          chain_adds_up t (suc (records bytes)) (first_record bytes t) (ok.firsts t (omega arith)),
          threads_add_up (suc t) many (omega arith),
          counts_add (λ k. sum_of_lines (has_number k) (chain bytes t (suc (records bytes)) (first_record bytes t))) (λ k. sum_of_threads (has_number k) (chains bytes (suc t) many)) 1 (records bytes),
        )

    pub lines_add_up : sum_of_threads weight (chains bytes 0 (thread_count bytes)) ≡ sum_from f 1 (records bytes)
    lines_add_up =
        threads_add_up 0 (thread_count bytes) (omega arith)
        ∙ counted_once (λ k. sum_of_threads (has_number k) (chains bytes 0 (thread_count bytes))) 1 (records bytes) (λ k low high. ok.reached_once k low (omega arith))

-- A loop over the records from record k on: what is left of the sum.
abbrev pub records_from : List ℕ → (ℕ → ℕ) → ℕ → ℕ
records_from bytes f k = sum_from f k (records bytes + 1 - k)

module _ (bytes : List ℕ) (f : ℕ → ℕ) where
  pub records_all : records_from bytes f 1 ≡ sum_from f 1 (records bytes)
  records_all = let z : records bytes + 1 - 1 ≡ records bytes = omega arith in rw z

  pub records_more : (k : ℕ) → k ≤ records bytes → records_from bytes f k ≡ f k + records_from bytes f (k + 1)
  records_more k h = let z : records bytes + 1 - k ≡ suc (records bytes + 1 - (k + 1)) = omega arith in rw (z, add-one k)

  pub records_none : (k : ℕ) → records bytes < k → records_from bytes f k ≡ 0
  records_none k h = let z : records bytes + 1 - k ≡ 0 = omega arith in rw z
