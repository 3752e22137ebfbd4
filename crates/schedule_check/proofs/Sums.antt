-- The loops that add up block lengths and compare them with the threads' lines: what is left decides.
-- Assumes nothing.
use mathlib.Core.Path.{◌≡◌, refl, sym, ap, ◌∙◌}
use Prim.Native.Nat.{ℕ, suc, ◌+◌, ◌-◌, ◌*◌, ◌%◌, ◌≤◌, ◌<◌}
use mathlib.Core.Bool.{Bool, true, false, cond}
use mathlib.Core.List.{List}
use native.Mathlib.Omega.{arith}
use native.Mathlib.Nat.{mod-lt}
use native.Mathlib.Numerals.{add-one}
use lib.Dec.{leb, eqb}
use lib.ListN.{get_or, set, length, drop, replicate, length-set, length-replicate, get_or-replicate, drop_of_length-le, get_or-eq_default}
use lib.Seq.{drop-cons, get_or-set_same, get_or-set_other}
use borrow.Author.Tests.{le-leb, lt-leb}
use Rattle.model.specs.Word.{word_size}
use Rattle.model.specs.Limits.{most_threads}
use Rattle.model.specs.Lists.{all_from}
use Rattle.model.specs.CaseFile.{thread_count, case_of, lines_of}
use Rattle.model.specs.Schedule.{steps_of, lengths_fit}
use Rattle.laws.specs.Accepted.{Accepted}
use Rattle.laws.proofs.Views.{EqView, same, diff, eq_view, LtView, below, above, lt_view}

module _ (bytes lengths : List ℕ) (t : ℕ) where
  steps_end : (i : ℕ) → length lengths ≤ i → steps_of (case_of bytes) t i (drop i lengths) ≡ 0
  unfolding steps_of
  steps_end i over = rw (drop_of_length-le lengths over)

  steps_more : (i threads steps r : ℕ) → i < length lengths → threads ≡ thread_count bytes → steps ≡ get_or lengths i 0
      → r ≡ cond (eqb t (i % threads)) steps 0
      → steps_of (case_of bytes) t i (drop i lengths) ≡ r + steps_of (case_of bytes) t (i + 1) (drop (i + 1) lengths)
  unfolding steps_of
  steps_more i threads steps r more all is e = rw (drop-cons lengths i 0 more, add-one i, e, is, all)

-- Block i belongs to one of the threads that a case can have.
pub belongs : (bytes : List ℕ) → Accepted bytes → (i threads : ℕ) → threads ≡ thread_count bytes → i % threads < most_threads
belongs bytes ok i threads all = omega (arith, mod-lt i {m = threads} (omega (arith, all, ok.some_threads)), all, ok.few_threads)

-- After i blocks: each thread's sum so far, and the lengths that are left.
pub record Adding (bytes lengths : List ℕ) (i : ℕ) (sums : List ℕ) : Type 0 where
  pub inside : i ≤ length lengths
  pub has_all : length sums ≡ most_threads
  pub small : (u : ℕ) → get_or sums u 0 ≤ word_size * i
  pub does : (u : ℕ) → u < most_threads → get_or sums u 0 + steps_of (case_of bytes) u i (drop i lengths) ≡ steps_of (case_of bytes) u 0 lengths

module _ (bytes lengths : List ℕ) where
  no_sum : (u : ℕ) → get_or {A = ℕ} (replicate most_threads 0) u 0 ≡ 0
  no_sum u = go (lt_view u most_threads)
    where
      go : LtView u most_threads → get_or {A = ℕ} (replicate most_threads 0) u 0 ≡ 0
      go (below h q) = get_or-replicate most_threads u 0 0 h
      go (above h q) = get_or-eq_default (replicate most_threads 0) 0 {n = u} (omega (arith, length-replicate {A = ℕ} most_threads 0))

  pub adding_start : Adding bytes lengths 0 (replicate most_threads 0)
  adding_start = record {
    inside = omega arith;
    has_all = refl;
    small = λ u. omega (arith, no_sum u);
    does = λ u h. omega (arith, no_sum u);
  }

  module _ (i : ℕ) (sums : List ℕ) (a : Adding bytes lengths i sums) where
    pub adding_end : length lengths ≤ i → (u : ℕ) → u < most_threads → get_or sums u 0 ≡ steps_of (case_of bytes) u 0 lengths
    adding_end over u h = omega (arith, a.does u h, steps_end bytes lengths u i over)

    pub adding_more : (threads t steps : ℕ) → i < length lengths → threads ≡ thread_count bytes → t ≡ i % threads → t < most_threads
        → steps ≡ get_or lengths i 0 → steps ≤ word_size → Adding bytes lengths (i + 1) (set sums t (get_or sums t 0 + steps))
    adding_more threads t steps more all is low are few = record {
      inside = omega arith;
      has_all = length-set sums t (get_or sums t 0 + steps) ∙ a.has_all;
      small = λ u. small u (eq_view u t);
      does = λ u h. does u h (eq_view u t);
    }
      where
        after : ℕ → ℕ
        after u = get_or (set sums t (get_or sums t 0 + steps)) u 0

        here : (u : ℕ) → u ≡ t → after u ≡ get_or sums u 0 + steps
        here u e =
            ap after e ∙ get_or-set_same sums t (get_or sums t 0 + steps) 0 (omega (arith, a.has_all)) ∙ ap (λ (x : ℕ). get_or sums x 0 + steps) (sym e)

        there : (u : ℕ) → (u ≡ t → ⊥) → after u ≡ get_or sums u 0
        there u e = get_or-set_other sums t u (get_or sums t 0 + steps) 0 e

        small : (u : ℕ) → EqView u t → after u ≤ word_size * (i + 1)
        small u (same e q) = omega (arith, here u e, a.small u)
        small u (diff e q) = omega (arith, there u e, a.small u)

        does : (u : ℕ) → u < most_threads → EqView u t → after u + steps_of (case_of bytes) u (i + 1) (drop (i + 1) lengths) ≡ steps_of (case_of bytes) u 0 lengths
        does u h (same e q) = omega (arith, here u e, a.does u h, steps_more bytes lengths u i threads steps steps more all are (rw (← is, q)))
        does u h (diff e q) = omega (arith, there u e, a.does u h, steps_more bytes lengths u i threads steps 0 more all are (rw (← is, q)))

-- Whether the lengths of threads t and on fit, so many of them.
unfoldable pub fit_from : List ℕ → List ℕ → ℕ → ℕ → Bool
fit_from bytes lengths t many = all_from (λ u. leb (steps_of (case_of bytes) u 0 lengths) (length (lines_of (case_of bytes) u))) t many

-- Those of the threads before t fit.
pub record Comparing (bytes lengths : List ℕ) (threads t : ℕ) : Type 0 where
  pub inside : t ≤ threads
  pub does : fit_from bytes lengths t (threads - t) ≡ lengths_fit (case_of bytes) lengths

module _ (bytes lengths : List ℕ) (threads : ℕ) where
  pub comparing_start : threads ≡ thread_count bytes → Comparing bytes lengths threads 0
  unfolding fit_from lengths_fit
  comparing_start all = let none : threads - 0 ≡ thread_count bytes = omega arith in record { inside = omega arith; does = rw none }

  module _ (t : ℕ) (s : Comparing bytes lengths threads t) where
    pub comparing_end : threads ≤ t → true ≡ lengths_fit (case_of bytes) lengths
    unfolding fit_from all_from
    comparing_end over = let none : threads - t ≡ 0 = omega arith in rw none at s.does

    module _ (more : t < threads) (sum lines : ℕ) (is_sum : sum ≡ steps_of (case_of bytes) t 0 lengths) (lines_are : lines ≡ length (lines_of (case_of bytes) t)) where
      left : threads - t ≡ suc (threads - (t + 1))
      left = omega arith

      pub comparing_fails : lines < sum → false ≡ lengths_fit (case_of bytes) lengths
      unfolding fit_from all_from
      comparing_fails over =
          let e = lt-leb (steps_of (case_of bytes) t 0 lengths) (length (lines_of (case_of bytes) t)) (omega (arith, over, is_sum, lines_are)) in
          rw (left, e) at s.does

      pub comparing_more : sum ≤ lines → Comparing bytes lengths threads (t + 1)
      unfolding fit_from all_from
      comparing_more fits =
          let e = le-leb (steps_of (case_of bytes) t 0 lengths) (length (lines_of (case_of bytes) t)) (omega (arith, fits, is_sum, lines_are)) in
          record { inside = omega arith; does = ap (λ (x : ℕ). fit_from bytes lengths x (threads - (t + 1))) (add-one t) ∙ (rw (left, e) at s.does) }
