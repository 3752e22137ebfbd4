-- The replayer's answers, by what the code finds.
-- Assumes nothing.
use Rattle.std.specs.Prelude.{Result, Ok, Err}
use mathlib.Core.Path.{◌≡◌, refl, sym, ap, ◌∙◌}
use Prim.Native.Nat.{ℕ, ◌+◌, ◌≤◌, ◌<◌}
use mathlib.Core.List.{List}
use native.Mathlib.Omega.{arith}
use lib.ListN.{length, take}
use lib.Seq.{length-take-le}
use borrow.Author.Tests.{le-leb, lt-leb}
use Rattle.model.specs.Limits.{most_items}
use Rattle.model.specs.Lists.{written_over}
use Rattle.model.specs.CaseFile.{switch_count, case_of, item_count}
use Rattle.model.specs.Accept.{verdict}
use Rattle.model.specs.Machine.{Outcome, refused14, cut_off, violated, clean}
use Rattle.model.specs.Schedule.{run_of}
use Rattle.model.specs.Answers.{answer_of_run, items_after, after_answer, replayed, replayed_into}
use Rattle.model.specs.declared.Refusal.{Refusal}
use Rattle.model.specs.declared.Refusal.TheVariants.{Short}
use Rattle.model.specs.declared.Replayed.{Replayed}
use Rattle.laws.proofs.OnCase.{on_accepted}
use Rattle.turn.specs.TurnState.{items_of}
use Rattle.run.specs.declared.Ended.{Ended}
use Rattle.run.specs.Promises.{EndItems, Replies}
use Rattle.schedule_check.specs.Refusals.{Looked}
use Rattle.schedule_check.proofs.Refusals.{refused_by, passed_by, run_is}
use Rattle.replayer.specs.Promises.{outcome_in, Ran, Answered}
use Rattle.replayer.specs.Ready.{ItemsFit}

-- The values of the items have a place in the slice.
pub first_fit : (values slice : List ℕ) (count : ℕ) → ItemsFit count slice → length values ≡ most_items → length (take count values) ≤ length slice
first_fit values slice count fits all = omega (arith, length-take-le count values (omega (arith, fits.few)), fits.room)

-- The run, to what is written: nothing where it is refused.
module _ (bytes lengths givens : List ℕ) (e : Ended) (replies : Replies bytes (outcome_in bytes lengths givens) e) (slice : List ℕ) where
  -- what is left of the run is what is written of it
  writes : (outcome : Outcome) → EndItems bytes outcome e.items
      → after_answer (answer_of_run outcome) (items_of bytes e.items) slice ≡ after_answer (answer_of_run outcome) (items_after outcome) slice
  writes (refused14 k) left = refl
  writes (cut_off k items) left = ap (λ (xs : List ℕ). written_over xs slice) left
  writes (violated k s) left = ap (λ (xs : List ℕ). written_over xs slice) left
  writes (clean s) left = ap (λ (xs : List ℕ). written_over xs slice) left

  module _ {r : Result Replayed Refusal} (is : e.reply ≡ r) where
    answered : r ≡ answer_of_run (outcome_in bytes lengths givens)
    answered = sym is ∙ replies.reply

    abbrev after_by : List ℕ → Result Replayed Refusal → List ℕ
    after_by xs r' = after_answer r' xs slice

    pub ends : (after : List ℕ) → after ≡ after_answer r (items_of bytes e.items) slice → Ran bytes lengths givens slice r after
    ends after written = record {
      answer = answered;
      written = written ∙ ap (after_by (items_of bytes e.items)) answered ∙ writes (outcome_in bytes lengths givens) replies.left
          ∙ sym (ap (after_by (items_after (outcome_in bytes lengths givens))) answered);
    }

  pub ends_refused : {why : Refusal} → e.reply ≡ Err why → Ran bytes lengths givens slice (Err why) slice
  ends_refused is = ends is slice refl

  pub ends_written : {x : Replayed} → e.reply ≡ Ok x → (after : List ℕ) (count : ℕ) → count ≡ item_count (case_of bytes)
      → after ≡ written_over (take count e.items) slice → Ran bytes lengths givens slice (Ok x) after
  ends_written is after count ec written = ends is after (rw ec at written)

-- The answer, and the slice after the call.
module _ (bytes schedule slice : List ℕ) where
  answers : (r : Result Replayed Refusal) (after : List ℕ) → r ≡ replayed bytes schedule (length slice)
      → after ≡ after_answer r (items_after (run_of (case_of bytes) schedule)) slice → Answered bytes schedule slice after r
  unfolding replayed_into
  answers r after er is = record { answer = er; slice = is ∙ ap (λ (x : Result Replayed Refusal). after_answer x (items_after (run_of (case_of bytes) schedule)) slice) er }

  module _ (accepted : verdict bytes ≡ Ok tt) {count : ℕ} (is_count : count ≡ item_count (case_of bytes)) where
    pub answers_10 : length slice < count → Answered bytes schedule slice slice (Err Short)
    unfolding replayed
    answers_10 short =
        answers (Err Short) slice
        (rw (on_accepted _ _ _ accepted, lt-leb (item_count (case_of bytes)) (length slice) (omega (arith, short, is_count)))) refl

    module _ (room : count ≤ length slice) {check : Result (Unit {0}) Refusal} {givens : List ℕ} (looked : Looked bytes schedule check givens) where
      enough : item_count (case_of bytes) ≤ length slice
      enough = omega (arith, room, is_count)

      pub answers_looked : {why : Refusal} → check ≡ Err why → Answered bytes schedule slice slice (Err why)
      unfolding replayed
      answers_looked {why} some =
          answers (Err why) slice
          (rw (on_accepted _ _ _ accepted, le-leb (item_count (case_of bytes)) (length slice) enough)
          (refused_by (case_of bytes) schedule Err (answer_of_run (run_of (case_of bytes) schedule)) check looked.refuses why some)) refl

      pub answers_run : {switches : ℕ} {r : Result Replayed Refusal} {after : List ℕ} → switches ≡ switch_count bytes → check ≡ Ok tt
          → Ran bytes (take (switches + 1) schedule) givens slice r after → Answered bytes schedule slice after r
      unfolding replayed
      answers_run {switches} {r} {after} is_switches none ran =
          let same_run = run_is bytes schedule givens check looked none is_switches in
          answers r after
          (rw (on_accepted _ _ _ accepted, le-leb (item_count (case_of bytes)) (length slice) enough)
          (ran.answer ∙ ap answer_of_run same_run
          ∙ passed_by (case_of bytes) schedule Err (answer_of_run (run_of (case_of bytes) schedule)) check looked.refuses none))
          (ran.written ∙ ap (λ (x : Outcome). after_answer r (items_after x) slice) same_run)
