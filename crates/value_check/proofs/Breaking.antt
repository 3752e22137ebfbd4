-- A line is found that violates just when some line does: constraint 7.
-- Assumes nothing. Met again where the checker asks the 7.
use mathlib.Core.Path.{◌≡◌, refl, ap, ◌∙◌}
use Prim.Native.Nat.{ℕ, ◌<◌}
use mathlib.Core.Bool.{Bool, true, false, ◌||◌}
use mathlib.Core.List.{List, [], ◌∷◌}
use native.Mathlib.Omega.{arith}
use borrow.Author.Tests.{ne_eqb}
use Rattle.model.specs.Word.{nonzero}
use Rattle.model.specs.CaseFile.{Line, Case, case_of}
use Rattle.model.specs.Machine.{noted}
use Rattle.model.specs.Assignment.{Assignment, assignment_of}
use Rattle.model.specs.Holds.{breaks_after, some_breaks, some_thread_breaks}
use Rattle.laws.specs.Accepted.{Accepted}
use Rattle.laws.specs.Order.{AllLines, AllThreads, Positive}
use Rattle.laws.proofs.Views.{EqView, same, diff, eq_view}
use Rattle.laws.proofs.AllLines.{all_threads_lem}
use Rattle.laws.proofs.Lines.{thread_lines_by}
use Rattle.value_check.specs.Breaking.{breaking_after, breaking_in, first_breaking}

or_false : (p : Bool) → p ≡ (p || false)
or_false true = refl
or_false false = refl

or_assoc : (p q r : Bool) → ((p || q) || r) ≡ (p || (q || r))
or_assoc true q r = refl
or_assoc false q r = refl

noted_or : (note : ℕ) (l : Line) (b : Bool) → 0 < l.number → nonzero (noted note l b) ≡ (nonzero note || b)
noted_or note l b h = go (eq_view note 0) b
  where
    go : EqView note 0 → (q : Bool) → nonzero (noted note l q) ≡ (nonzero note || q)
    go (same e q) true = rw (q, ne_eqb l.number 0 (λ z. omega arith))
    go (same e q) false = rw q
    go (diff e q) b' = rw (q, q)

module _ (case : Case) (α : Assignment) where
  breaking_after_lem : (note : ℕ) (earlier ls : List Line) → AllLines Positive ls
      → nonzero (breaking_after case α note earlier ls) ≡ (nonzero note || some_breaks case α earlier ls)
  unfolding breaking_after some_breaks
  breaking_after_lem note earlier [] positive = or_false (nonzero note)
  breaking_after_lem note earlier (l ∷ ls) positive =
      let b = breaks_after case α earlier l in
      breaking_after_lem (noted note l b) (l ∷ earlier) ls positive.1
      ∙ ap (λ (p : Bool). p || some_breaks case α (l ∷ earlier) ls) (noted_or note l b positive.0)
      ∙ or_assoc (nonzero note) b (some_breaks case α (l ∷ earlier) ls)

  breaking_in_lem : (note : ℕ) (threads : List (List Line)) → AllThreads Positive threads
      → nonzero (breaking_in case α note threads) ≡ (nonzero note || some_thread_breaks case α threads)
  unfolding breaking_in some_thread_breaks
  breaking_in_lem note [] positive = or_false (nonzero note)
  breaking_in_lem note (ls ∷ threads) positive =
      breaking_in_lem (breaking_after case α note [] ls) threads positive.1
      ∙ ap (λ (p : Bool). p || some_thread_breaks case α threads) (breaking_after_lem note [] ls positive.0)
      ∙ or_assoc (nonzero note) (some_breaks case α [] ls) (some_thread_breaks case α threads)

pub first_breaking_lem : (bytes xs : List ℕ) → Accepted bytes
    → nonzero (first_breaking bytes xs) ≡ some_thread_breaks (case_of bytes) (assignment_of (case_of bytes) xs) (case_of bytes).threads
first_breaking_lem bytes xs ok =
    breaking_in_lem (case_of bytes) (assignment_of (case_of bytes) xs) 0 (case_of bytes).threads
    (all_threads_lem Positive (case_of bytes).threads
    (λ t h. thread_lines_by bytes ok t (AllLines Positive) tt (λ k ls low high rest. (low, rest))))
