-- Refusals 12 and 13, by what the code finds; and what a call does with them.
-- Assumes nothing. Met again where a call has looked through a schedule.
use Rattle.std.specs.Prelude.{Result, Ok, Err}
use mathlib.Core.Path.{◌≡◌, refl, sym, ap, ◌∙◌, fun_ext}
use Prim.Native.Nat.{ℕ, suc, ◌+◌, ◌≤◌, ◌<◌}
use mathlib.Core.Bool.{Bool, true, false}
use mathlib.Core.List.{List}
use native.Mathlib.Omega.{arith}
use lib.Dec.{eqb}
use lib.ListN.{get_or, length, take, drop, replicate}
use borrow.Author.Tests.{eq-eqb, ne_eqb}
use Rattle.model.specs.Limits.{record_places}
use Rattle.model.specs.Lists.{unless}
use Rattle.model.specs.CaseFile.{Case, records, switch_count, case_of}
use Rattle.model.specs.Machine.{run}
use Rattle.model.specs.declared.Refusal.{Refusal}
use Rattle.model.specs.declared.Refusal.TheVariants.{Schedule, Lengths}
use Rattle.model.specs.Schedule.{all_input_lines, schedule_size, block_lengths, value_given, given_in, lengths_fit, run_of}
use Rattle.laws.specs.Accepted.{Accepted}
use Rattle.laws.proofs.Views.{EqView, same, diff, eq_view}
use Rattle.schedule_check.specs.InputValues.{Inputs, inputs, put_threads, no_inputs}
use Rattle.schedule_check.specs.Refusals.{refusal_by, refusal_of, Looked}
use Rattle.schedule_check.proofs.Values.{used_is, places_are, value_is}

refuses_not_none : (e : Refusal) → ◌≡◌ {A = Result (Unit {0}) Refusal} (Err e) (Ok tt) → ⊥
refuses_not_none e is = let z : ◌≡◌ {A = ℕ} 0 1 = cc in omega arith

-- What the code finds in a schedule.
module _ (bytes schedule givens₀ : List ℕ) (ok : Accepted bytes) (ready : givens₀ ≡ replicate record_places 0) {switches : ℕ} (is_switches : switches ≡ switch_count bytes) {f : Inputs}
    (is_spread : f ≡ put_threads schedule (case_of bytes).threads (inputs givens₀ (switches + 1)))
  where
    spread_is : f ≡ put_threads schedule (case_of bytes).threads (no_inputs (switches + 1))
    spread_is = is_spread ∙ ap (λ (xs : List ℕ). put_threads schedule (case_of bytes).threads (inputs xs (switches + 1))) ready

    blocks : switches + 1 ≡ suc (switch_count bytes)
    blocks = omega arith

    used_by : f.used ≡ switches + 1 + length (all_input_lines (case_of bytes).threads)
    used_by = ap (λ (x : Inputs). x.used) spread_is ∙ used_is bytes schedule (switches + 1)

    size_is : f.used ≡ schedule_size (case_of bytes)
    size_is = used_by ∙ ap (λ (x : ℕ). x + length (all_input_lines (case_of bytes).threads)) blocks

    has_places : length f.given ≡ record_places
    has_places = ap (λ (x : Inputs). length x.given) spread_is ∙ places_are bytes schedule (switches + 1)

    pub looked_12 : (length schedule ≡ f.used → ⊥) → Looked bytes schedule (Err Schedule) f.given
    unfolding refusal_of
    looked_12 differ = record {
      refuses = rw (ne_eqb (length schedule) (schedule_size (case_of bytes)) (λ e. differ (e ∙ sym size_is)));
      places = has_places;
      values = λ none. absurd (refuses_not_none _ none);
    }

    module _ (whole : length schedule ≡ f.used) where
      pub has_lengths : switches + 1 ≤ length schedule
      has_lengths = omega (arith, whole, used_by)

      module _ {fit : Bool} (is_fit : fit ≡ lengths_fit (case_of bytes) (take (switches + 1) schedule)) where
        fit_is : fit ≡ lengths_fit (case_of bytes) (block_lengths (case_of bytes) schedule)
        fit_is = is_fit ∙ ap (λ (x : ℕ). lengths_fit (case_of bytes) (take x schedule)) blocks

        pub looked_13 : fit ≡ false → Looked bytes schedule (Err Lengths) f.given
        unfolding refusal_of
        looked_13 fail = record {
          refuses = rw (eq-eqb (length schedule) (schedule_size (case_of bytes)) (whole ∙ size_is), ← fit_is, fail);
          places = has_places;
          values = λ none. absurd (refuses_not_none _ none);
        }

        pub looked_none : fit ≡ true → Looked bytes schedule (Ok tt) f.given
        unfolding refusal_of
        looked_none pass = record {
          refuses = rw (eq-eqb (length schedule) (schedule_size (case_of bytes)) (whole ∙ size_is), ← fit_is, pass);
          places = has_places;
          values = λ none k. ap (λ (x : Inputs). get_or x.given k 0) spread_is
              ∙ value_is bytes schedule (switches + 1) ok (whole ∙ used_by) k
              ∙ ap (λ (x : ℕ). value_given (all_input_lines (case_of bytes).threads) (drop x schedule) k) blocks;
        }

-- What a call answers by the refusal: it hands that on, or goes on.
module _ (case : Case) (schedule : List ℕ) {A : Type 0} (refuse : Refusal → A) (next : A) (r : Result (Unit {0}) Refusal) (is : r ≡ refusal_of case schedule) where
  abbrev answer : Bool → Bool → A
  answer whole fits = unless whole (refuse Schedule) (unless fits (refuse Lengths) next)

  pub refused_by : (e : Refusal) → r ≡ Err e → refuse e ≡ answer (eqb (length schedule) (schedule_size case)) (lengths_fit case (block_lengths case schedule))
  unfolding refusal_of
  refused_by e some = go (eqb (length schedule) (schedule_size case)) (lengths_fit case (block_lengths case schedule)) (sym is ∙ some)
    where
      go : (p q : Bool) → refusal_by p q ≡ Err e → refuse e ≡ answer p q
      go true true h = absurd (refuses_not_none e (sym h))
      go true false h = ap refuse (let same : e ≡ Lengths = cc in same)
      go false q h = ap refuse (let same : e ≡ Schedule = cc in same)

  pub passed_by : r ≡ Ok tt → next ≡ answer (eqb (length schedule) (schedule_size case)) (lengths_fit case (block_lengths case schedule))
  unfolding refusal_of
  passed_by none = go (eqb (length schedule) (schedule_size case)) (lengths_fit case (block_lengths case schedule)) (sym is ∙ none)
    where
      go : (p q : Bool) → refusal_by p q ≡ Ok tt → next ≡ answer p q
      go true true h = refl
      go true false h = absurd (refuses_not_none _ h)
      go false q h = absurd (refuses_not_none _ h)

-- Every record has a place among the values.
pub records_have_places : (bytes schedule givens : List ℕ) (r : Result (Unit {0}) Refusal) → Accepted bytes → Looked bytes schedule r givens → records bytes < length givens
records_have_places bytes schedule givens r ok looked = omega (arith, ok.few_records, looked.places)

-- A schedule that goes through: it has its block lengths, and its run is the one with the values as the code holds them.
module _ (bytes schedule givens : List ℕ) (r : Result (Unit {0}) Refusal) (looked : Looked bytes schedule r givens) (none : r ≡ Ok tt) {switches : ℕ} (is_switches : switches ≡ switch_count bytes) where
  taken : switches + 1 ≡ suc (switch_count bytes)
  taken = omega arith

  pub enough_numbers : switches + 1 ≤ length schedule
  unfolding refusal_of
  enough_numbers = go (eq_view (length schedule) (schedule_size (case_of bytes))) (sym looked.refuses ∙ none)
    where
      go : EqView (length schedule) (schedule_size (case_of bytes))
          → refusal_by (eqb (length schedule) (schedule_size (case_of bytes))) (lengths_fit (case_of bytes) (block_lengths (case_of bytes) schedule)) ≡ Ok tt
          → switches + 1 ≤ length schedule
      go (same e q) h = omega (arith, e)
      go (diff e q) h = absurd (refuses_not_none _ (rw q at h))

  pub givens_are : (λ (k : ℕ). get_or givens k 0) ≡ given_in (case_of bytes) schedule
  givens_are = fun_ext (looked.values none)

  pub lengths_are : take (switches + 1) schedule ≡ block_lengths (case_of bytes) schedule
  lengths_are = ap (λ (x : ℕ). take x schedule) taken

  pub run_is : run (case_of bytes) (take (switches + 1) schedule) (λ k. get_or givens k 0) ≡ run_of (case_of bytes) schedule
  unfolding run_of
  run_is =
      ap (λ (xs : List ℕ). run (case_of bytes) xs (λ k. get_or givens k 0)) lengths_are
      ∙ ap (run (case_of bytes) (block_lengths (case_of bytes) schedule)) givens_are
