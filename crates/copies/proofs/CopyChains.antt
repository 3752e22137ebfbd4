-- The chains of copies as lines are taken: at first there is none, and a line that is taken has the copy of its target before it.
-- Assumes nothing. Met again where the checker goes along a thread.
use mathlib.Core.Path.{◌≡◌, refl, sym, ap, ◌∙◌}
use mathlib.Core.Logic.{◌≢◌}
use Prim.Native.Nat.{ℕ, zero, suc, ◌+◌, ◌≤◌, ◌<◌}
use mathlib.Core.List.{List, [], ◌∷◌, reverse, reverse_aux, reverse-reverse}
use native.Mathlib.Omega.{arith}
use borrow.Author.Tests.{eq-eqb}
use lib.ListN.{length, get_or, set, length-set, length-replicate, replicate}
use lib.Seq.{get_or-set_same, get_or-set_other}
use Rattle.model.specs.Limits.{most_threads, record_places}
use Rattle.model.specs.CaseFile.{Line, global_count, Case, case_of, lines_of, sum_of_lines, sum_of_threads, has_number}
use Rattle.model.specs.Line.{target_name}
use Rattle.model.specs.Copies.{copy_of, nothing_held, held_copy, take_line, walk_lines, held_after}
use Rattle.laws.specs.Accepted.{Accepted}
use Rattle.laws.proofs.Views.{EqView, same, diff, eq_view}
use Rattle.laws.proofs.Counting.{own_number_counts, thread_sum_at_most}
use Rattle.laws.proofs.Lines.{numbers_within_lem, numbers_once}
use Rattle.laws.proofs.ForwardWalk.{held_more, held_copy_lem}
use Rattle.copies.specs.CopyChains.{HasBefore, Noted, ThreadChains, CopyChains}
use Rattle.copies.proofs.Held.{held_start, held_next}

-- ---- Records that a thread's lines, or another thread's, do not have

module _ (weight : Line → ℕ) where
  sum_reversed : (ls earlier : List Line) → sum_of_lines weight (reverse_aux ls earlier) ≡ sum_of_lines weight ls + sum_of_lines weight earlier
  sum_reversed [] earlier = omega arith
  sum_reversed (l ∷ ls) earlier = sum_reversed ls (l ∷ earlier) ∙ omega arith

  two_threads_at_most : (threads : List (List Line)) (t u : ℕ) → t ≢ u
      → sum_of_lines weight (get_or threads t []) + sum_of_lines weight (get_or threads u []) ≤ sum_of_threads weight threads
  two_threads_at_most [] t u n = omega arith
  two_threads_at_most (ls ∷ threads) zero zero n = absurd (n refl)
  two_threads_at_most (ls ∷ threads) zero (suc u) n = omega (arith, thread_sum_at_most weight threads u)
  two_threads_at_most (ls ∷ threads) (suc t) zero n = omega (arith, thread_sum_at_most weight threads t)
  two_threads_at_most (ls ∷ threads) (suc t) (suc u) n = omega (arith, two_threads_at_most threads t u (λ e. n (ap suc e)))

has_before_kept : (G : ℕ) (previous : List ℕ) (k p : ℕ) (ls : List Line) → sum_of_lines (has_number k) ls ≡ 0 → HasBefore G previous ls
    → HasBefore G (set previous k p) ls
has_before_kept G previous k p [] none has = tt
has_before_kept G previous k p (l ∷ ls) none has = (
  get_or-set_other previous k l.number p 0 (λ e. omega (arith, rw (eq-eqb l.number k e) at none)) ∙ has.0,
  has_before_kept G previous k p ls (omega arith) has.1,
)

-- ---- The copies before the lines

pub noted_start : (case : Case) (previous : List ℕ) → previous ≡ replicate record_places 0 → Noted case previous 0 []
noted_start case previous e = record { places = ap length e ∙ length-replicate {A = ℕ} record_places 0; done = λ u h. absurd (omega arith); own = tt }

pub noted_next : {case : Case} {previous : List ℕ} {t : ℕ} {earlier : List Line} → Noted case previous t earlier
    → earlier ≡ reverse (lines_of case t) → Noted case previous (suc t) []
noted_next {case} {previous} {t} {earlier} v e = record { places = v.places; done = λ u h. go u h (eq_view u t); own = tt }
  where
    go : (u : ℕ) → u < suc t → EqView u t → HasBefore case.G previous (reverse (lines_of case u))
    go u h (same p _) = rw (p, ← e) v.own
    go u h (diff p _) = v.done u (omega arith)

-- one more line
module _ (bytes : List ℕ) (ok : Accepted bytes) {previous : List ℕ} {t : ℕ} {earlier : List Line} (v : Noted (case_of bytes) previous t earlier)
    (l : Line) (later : List Line) (lines : reverse_aux (l ∷ later) earlier ≡ reverse (lines_of (case_of bytes) t)) where
  abbrev case : Case
  case = case_of bytes

  abbrev counts : List Line → ℕ
  counts = sum_of_lines (has_number l.number)

  in_thread : counts later + 1 + counts earlier ≡ counts (lines_of case t)
  in_thread =
      omega (
        arith,
        own_number_counts l,
        sum_reversed (has_number l.number) (l ∷ later) earlier,
        ap counts lines,
        sum_reversed (has_number l.number) (lines_of case t) [],
      )

  once : counts (lines_of case t) ≤ sum_of_threads (has_number l.number) case.threads
  once = thread_sum_at_most (has_number l.number) case.threads t

  not_earlier : counts earlier ≡ 0
  not_earlier = omega (arith, in_thread, once, numbers_once bytes ok l.number)

  elsewhere_none : (u : ℕ) → u < t → counts (reverse (lines_of case u)) ≡ 0
  elsewhere_none u h =
      omega (
        arith,
        in_thread,
        sum_reversed (has_number l.number) (lines_of case u) [],
        two_threads_at_most (has_number l.number) case.threads u t (λ e. omega arith),
        numbers_once bytes ok l.number,
      )

  pub noted_more : {p : ℕ} → p ≡ copy_of case.G (target_name case.G l) earlier → Noted case (set previous l.number p) t (l ∷ earlier)
  noted_more {p} e =
      let within = numbers_within_lem bytes ok l.number (omega (arith, in_thread, once)) in
      record {
        places = length-set previous l.number p ∙ v.places;
        done = λ u h. has_before_kept case.G previous l.number p (reverse (lines_of case u)) (elsewhere_none u h) (v.done u h);
        own = (
          get_or-set_same previous l.number p 0 (omega (arith, within.low, v.places, ok.few_records)) ∙ e,
          has_before_kept case.G previous l.number p earlier not_earlier v.own,
        );
      }

-- ---- With what is held

pub chains_start : (case : Case) (copies : List (List ℕ)) (previous : List ℕ) → copies ≡ replicate most_threads nothing_held
    → previous ≡ replicate record_places 0 → CopyChains case copies previous 0
chains_start case copies previous ec ep = record { latest = held_start case copies ec; noted = noted_start case previous ep }

pub thread_start : {case : Case} {copies : List (List ℕ)} {previous : List ℕ} {t : ℕ} → CopyChains case copies previous t → t < most_threads
    → ThreadChains case (get_or copies t []) previous t []
unfolding walk_lines
thread_start {case} {copies} {previous} {t} v few = record { holds = v.latest.none t (omega arith) few; noted = v.noted }

pub chains_more :
    (bytes : List ℕ) → Accepted bytes → {held previous : List ℕ} {t : ℕ} {earlier : List Line} → ThreadChains (case_of bytes) held previous t earlier
    → (l : Line) (later : List Line) → reverse_aux (l ∷ later) earlier ≡ reverse (lines_of (case_of bytes) t)
    → ThreadChains (case_of bytes) (take_line (global_count bytes) held l)
    (set previous l.number (held_copy held (target_name (global_count bytes) l))) t (l ∷ earlier)
chains_more bytes ok {held} {previous} {t} {earlier} v l later lines = record {
  holds = ap (λ (xs : List ℕ). take_line (global_count bytes) xs l) v.holds ∙ sym (held_more (global_count bytes) earlier l);
  noted = noted_more bytes ok v.noted l later lines
      (ap (λ (xs : List ℕ). held_copy xs (target_name (global_count bytes) l)) v.holds ∙ held_copy_lem (global_count bytes) (target_name (global_count bytes) l) earlier);
}

pub chains_next :
    {case : Case} {copies : List (List ℕ)} {was : List ℕ} {t : ℕ} → CopyChains case copies was t → t < most_threads
    → {held previous : List ℕ} → ThreadChains case held previous t (reverse (lines_of case t)) → CopyChains case (set copies t held) previous (suc t)
chains_next {case} {copies} {was} {t} v few {held} {previous} w = record {
  latest = held_next case copies t v.latest few held (w.holds ∙ ap (held_after case.G) (reverse-reverse (lines_of case t)));
  noted = noted_next w.noted refl;
}
