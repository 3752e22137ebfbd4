-- Six: refusal 17 names the first late step of a run that violates, by thread and chain, and none where the schedule keeps the rule.
-- Assumes nothing. Met again in Demand3.
use mathlib.Core.Path.{◌≡◌, refl, sym, ap, ◌∙◌, subst}
use Prim.Native.Nat.{ℕ, suc, ◌+◌, ◌≤◌, ◌<◌}
use mathlib.Core.Bool.{Bool, true, false, cond}
use mathlib.Core.List.{List, [], ◌∷◌}
use native.Mathlib.Omega.{arith}
use native.Mathlib.Nat.{add-zero, zero-add}
use lib.ListN.{get_or, length}
use Rattle.laws.specs.Order.{AllLines, Positive}
use Rattle.laws.proofs.Views.{EqView, same, diff, eq_view, LtView, below, above, lt_view}
use Rattle.model.specs.CaseFile.{Line, Case, lines_of}
use Rattle.model.specs.Line.{late}
use Rattle.model.specs.Assignment.{assignment_of}
use Rattle.model.specs.Schedule.{schedule_size}
use Rattle.model.specs.Runs.{Step, course_of, thread_steps, NoneLate, KeepsRule, IfLate, ThreadLate, FirstLate}
use Rattle.model.specs.Fill.{fill, late_in, first_late}
use Rattle.model.specs.Answers.{late_record}
use Rattle.correspondence.specs.Meaning.{WellFormed}
use Rattle.correspondence.proofs.Claims.{FinishesRun}
use Rattle.correspondence.proofs.Keeping.{lines_in, late_of, late_of_filled}

-- ---- One thread: none of its steps is late, or the first that is has a record.
data ThreadView (steps : List Step) : Type 0 where
  none : NoneLate steps → ThreadView steps
  some : (k : ℕ) → 0 < k → ThreadLate steps k → ThreadView steps

thread_view : (steps : List Step) → AllLines Positive (lines_in steps) → ThreadView steps
thread_view [] positive = none tt
thread_view (before ∷ []) positive = none tt
thread_view (before ∷ (s ∷ steps)) positive = go (late s.line.kind before.block s.block) refl (thread_view (s ∷ steps) positive.1)
  where
    go : (q : Bool) → late s.line.kind before.block s.block ≡ q → ThreadView (s ∷ steps) → ThreadView (before ∷ (s ∷ steps))
    go true e rest =
        some s.line.number positive.1.0
        (subst (λ (q : Bool). IfLate q (s.line.number ≡ s.line.number) (ThreadLate (s ∷ steps) s.line.number)) (sym e) refl)
    go false e (none not_late) = none (e, not_late)
    go false e (some k low found) = some k low (subst (λ (q : Bool). IfLate q (s.line.number ≡ k) (ThreadLate (s ∷ steps) k)) (sym e) found)

names_late : (steps : List Step) (k : ℕ) → ThreadLate steps k → (others : ℕ) → late_of steps others ≡ k
names_late [] k found others = absurd found
names_late (before ∷ []) k found others = absurd found
names_late (before ∷ (s ∷ steps)) k found others = go (late s.line.kind before.block s.block) found (λ later. names_late (s ∷ steps) k later others)
  where
    go : (q : Bool) → IfLate q (s.line.number ≡ k) (ThreadLate (s ∷ steps) k) → (ThreadLate (s ∷ steps) k → late_of (s ∷ steps) others ≡ k)
        → cond q s.line.number (late_of (s ∷ steps) others) ≡ k
    go true own rest = own
    go false own rest = rest own

passes_none : (steps : List Step) → NoneLate steps → (others : ℕ) → late_of steps others ≡ others
passes_none [] not_late others = refl
passes_none (before ∷ []) not_late others = refl
passes_none (before ∷ (s ∷ steps)) not_late others = rw not_late.0 (passes_none (s ∷ steps) not_late.1 others)

not_both : (steps : List Step) (k : ℕ) → NoneLate steps → ThreadLate steps k → ⊥
not_both steps k not_late found = omega (arith, passes_none steps not_late 0, passes_none steps not_late 1, names_late steps k found 0, names_late steps k found 1)

-- ---- All threads: so many of them from t on, where looking for the first late line gave this.
data AllView (steps : ℕ → List Step) (t many found : ℕ) : Type 0 where
  none_at_all : ((u : ℕ) → t ≤ u → u < t + many → NoneLate (steps u)) → found ≡ 0 → AllView steps t many found
  some_at : (u : ℕ) → t ≤ u → u < t + many → ((v : ℕ) → t ≤ v → v < u → NoneLate (steps v)) → 0 < found → ThreadLate (steps u) found
      → AllView steps t many found

module _ (case : Case) (block : ℕ → ℕ) (steps : ℕ → List Step) (views : (t : ℕ) → ThreadView (steps t))
    (late_in_lem : (t others : ℕ) → late_in case block (lines_of case t) others ≡ late_of (steps t) others) where
  all_view : (t : ℕ) (threads : List (List Line)) → ((j : ℕ) → get_or threads j [] ≡ lines_of case (t + j)) → AllView steps t (length threads) (first_late case block threads)
  unfolding first_late
  all_view t [] from = none_at_all (λ u h h'. absurd (omega arith)) refl
  all_view t (ls ∷ threads) from = go (views t) (all_view (suc t) threads (λ j. from (suc j) ∙ ap (lines_of case) (omega arith)))
    where
      rest : ℕ
      rest = first_late case block threads

      first : late_in case block ls rest ≡ late_of (steps t) rest
      first = ap (λ (x : List Line). late_in case block x rest) (from 0 ∙ ap (lines_of case) (add-zero t)) ∙ late_in_lem t rest

      one_more : (u : ℕ) → ((v : ℕ) → suc t ≤ v → v < u → NoneLate (steps v)) → NoneLate (steps t) → (v : ℕ) → t ≤ v → v < u → NoneLate (steps v)
      one_more u others own v h h' = choose (eq_view v t)
        where
          choose : EqView v t → NoneLate (steps v)
          choose (same e q) = rw e own
          choose (diff e q) = others v (omega (arith, e)) h'

      go : ThreadView (steps t) → AllView steps (suc t) (length threads) rest → AllView steps t (suc (length threads)) (late_in case block ls rest)
      go (some k low found) others =
          let is_k : late_in case block ls rest ≡ k = first ∙ names_late (steps t) k found rest in
          some_at t (omega arith) (omega arith) (λ v h h'. absurd (omega arith)) (omega (arith, is_k, low)) (subst (ThreadLate (steps t)) (sym is_k) found)
      go (none own) (none_at_all others e) =
          none_at_all (λ u h h'. one_more (t + suc (length threads)) (λ v low high. others v low (omega arith)) own u h h') (first ∙ passes_none (steps t) own rest ∙ e)
      go (none own) (some_at u h h' before low found) =
          let is_rest : late_in case block ls rest ≡ rest = first ∙ passes_none (steps t) own rest in
          some_at u (omega arith) (omega arith) (one_more u before own) (omega (arith, is_rest, low)) (subst (ThreadLate (steps u)) (sym is_rest) found)

-- A schedule with a late step breaks the rule.
pub breaks_of_late : (case : Case) (schedule : List ℕ) (k : ℕ) → FirstLate case schedule k → KeepsRule case schedule → ⊥
breaks_of_late case schedule k first keeps =
    not_both (thread_steps case first.thread (course_of case schedule)) k (keeps first.thread first.is_thread_lem) first.here

-- ---- A schedule whose run finishes.
module _ (case : Case) (wf : WellFormed case) (schedule : List ℕ) (sized : length schedule ≡ schedule_size case) (finished : FinishesRun case schedule) where
  abbrev steps_of : ℕ → List Step
  steps_of t = thread_steps case t (course_of case schedule)

  view : AllView steps_of 0 (length case.threads) (late_record case schedule)
  view =
      let known = late_of_filled case wf schedule sized finished in
      all_view case (assignment_of case (fill case schedule)).block steps_of (λ t. thread_view (steps_of t) (known t).1) (λ t. (known t).0) 0 case.threads
      (λ j. ap (lines_of case) (sym (zero-add j)))

  pub none_of_keeps : KeepsRule case schedule → late_record case schedule ≡ 0
  none_of_keeps keeps = go view
    where
      go : AllView steps_of 0 (length case.threads) (late_record case schedule) → late_record case schedule ≡ 0
      go (none_at_all others e) = e
      go (some_at u h h' before low found) = absurd (not_both (steps_of u) _ (keeps u (omega (arith, h', wf.thread_count_lem))) found)

  pub keeps_of_none : late_record case schedule ≡ 0 → KeepsRule case schedule
  keeps_of_none e t few = go view
    where
      go : AllView steps_of 0 (length case.threads) (late_record case schedule) → NoneLate (steps_of t)
      go (none_at_all others _) = others t (omega arith) (omega (arith, few, wf.thread_count_lem))
      go (some_at u h h' before low found) = absurd (omega (arith, low, e))

  pub first_of_late : 0 < late_record case schedule → FirstLate case schedule (late_record case schedule)
  first_of_late some-late = go view
    where
      go : AllView steps_of 0 (length case.threads) (late_record case schedule) → FirstLate case schedule (late_record case schedule)
      go (none_at_all others e) = absurd (omega (arith, some-late, e))
      go (some_at u h h' before low found) = record { thread = u; is_thread_lem = omega (arith, h', wf.thread_count_lem); none_before = λ t less. before t (omega arith) less; here = found }

  pub late_of_first : (k : ℕ) → FirstLate case schedule k → (0 < late_record case schedule) × (late_record case schedule ≡ k)
  late_of_first k first = go view
    where
      go : AllView steps_of 0 (length case.threads) (late_record case schedule) → (0 < late_record case schedule) × (late_record case schedule ≡ k)
      go (none_at_all others e) = absurd (not_both (steps_of first.thread) k (others first.thread (omega arith) (omega (arith, first.is_thread_lem, wf.thread_count_lem))) first.here)
      go (some_at u h h' before low found) = (low, same_thread (eq_view u first.thread))
        where
          same_thread : EqView u first.thread → late_record case schedule ≡ k
          same_thread (same e q) = sym (names_late (steps_of u) (late_record case schedule) found 0) ∙ ap (λ (t : ℕ). late_of (steps_of t) 0) e ∙ names_late (steps_of first.thread) k first.here 0
          same_thread (diff e q) = other_thread (lt_view u first.thread)
            where
              other_thread : LtView u first.thread → late_record case schedule ≡ k
              other_thread (below less _) = absurd (not_both (steps_of u) _ (first.none_before u less) found)
              other_thread (above more _) = absurd (not_both (steps_of first.thread) k (before first.thread (omega arith) (omega (arith, e, more))) first.here)

  pub late_of_breaks : (KeepsRule case schedule → ⊥) → (k : ℕ) × FirstLate case schedule k
  late_of_breaks breaks = go (eq_view (late_record case schedule) 0)
    where
      go : EqView (late_record case schedule) 0 → (k : ℕ) × FirstLate case schedule k
      go (same e q) = absurd (breaks (keeps_of_none e))
      go (diff e q) = (late_record case schedule, first_of_late (omega (arith, e)))
