-- The filler's answers, by what the code finds.
-- Assumes nothing.
use Rattle.std.specs.Prelude.{Result, Ok, Err}
use mathlib.Core.Path.{◌≡◌, refl, sym, ap, ap₂, ◌∙◌, subst}
use mathlib.Core.Logic.{◌≢◌}
use Prim.Native.Nat.{ℕ, ◌+◌, ◌≤◌, ◌<◌}
use mathlib.Core.List.{List}
use native.Mathlib.Omega.{arith}
use lib.ListN.{length, take, replicate, length-replicate}
use lib.Seq.{length-take-le}
use borrow.Author.Tests.{le-leb, lt-leb}
use Rattle.model.specs.Limits.{most_blocks, most_variables}
use Rattle.model.specs.Lists.{written_over, unless_0}
use Rattle.model.specs.CaseFile.{switch_count, case_of}
use Rattle.model.specs.Accept.{verdict}
use Rattle.model.specs.Machine.{State, Outcome, refused14, cut_off, violated, clean, start, run}
use Rattle.model.specs.Assignment.{variables, assignment_of}
use Rattle.model.specs.Schedule.{run_of}
use Rattle.model.specs.Runs.{last_state}
use Rattle.model.specs.Fill.{put_blocks, put_all_unrun, fill, first_late}
use Rattle.model.specs.Answers.{answer_of_run, answer_of_fill, late_record, filled, after_answer, filled_into}
use Rattle.model.specs.declared.Refusal.{Refusal}
use Rattle.model.specs.declared.Refusal.TheVariants.{Short, Stray, NoViolation, Late}
use Rattle.model.specs.declared.Replayed.{Replayed}
use Rattle.model.specs.declared.Replayed.TheVariants.{Violated, Clean, CutOff}
use Rattle.laws.specs.Accepted.{Accepted}
use Rattle.laws.specs.Bounded.{Bounded}
use Rattle.laws.proofs.OnCase.{on_accepted}
use Rattle.assignment.specs.Numbers.{record_block}
use Rattle.turn.specs.TurnState.{given_by}
use Rattle.run.specs.declared.Ended.{Ended}
use Rattle.run.proofs.Found.{none_by, some_by}
use Rattle.std.specs.Prelude.{Option, None, Some}
use Rattle.run.specs.Promises.{AtTheEnd, whole_trace, Traced}
use Rattle.run.proofs.Starts.{take_zeros}
use Rattle.schedule_check.specs.Refusals.{Looked}
use Rattle.schedule_check.proofs.Refusals.{refused_by, passed_by, enough_numbers, givens_are, lengths_are, run_is}
use Rattle.filler.specs.Promises.{RunFilled, Over, Answered}
use Rattle.filler.specs.Ready.{RunReady, SliceReady}
use Rattle.filler.proofs.LastState.{violated_state}

-- What the run asks for, where nothing has refused the schedule; and the numbers then fit the slice.
pub slice_ready : (bytes schedule givens slice : List ℕ) (check : Result (Unit {0}) Refusal) (size : ℕ) → Accepted bytes → Looked bytes schedule check givens → check ≡ Ok tt
    → Bounded (variables (case_of bytes)) most_variables size → size ≤ length slice → SliceReady bytes schedule givens (take size (replicate most_variables 0)) slice
slice_ready bytes schedule givens slice check size ok looked none is_size room = record {
  ready = record {
    looked = subst (λ (x : Result (Unit {0}) Refusal). Looked bytes schedule x givens) none looked;
    zeros = take_zeros size most_variables is_size.most ∙ ap (λ (x : ℕ). replicate x 0) is_size.is;
  };
  room = omega (arith, room, is_size.is);
}

pub numbers_fit : {bytes schedule givens zeros slice : List ℕ} → SliceReady bytes schedule givens zeros slice → (numbers : List ℕ) → length numbers ≡ length zeros
    → length numbers ≤ length slice
numbers_fit {bytes} ready numbers same_size =
    omega (arith, same_size, ap length ready.ready.zeros, length-replicate {A = ℕ} (variables (case_of bytes)) 0, ready.room)

-- A refusal is no answer.
refused_is_none : {A : Type 0} (why : Refusal) (x : A) → ◌≡◌ {A = Result A Refusal} (Err why) (Ok x) → ⊥
refused_is_none why x e = let z : ◌≡◌ {A = ℕ} 0 1 = cc in omega arith

-- A run that is refused, and one that does not violate.
stray_is : (bytes schedule : List ℕ) (o : Outcome) (why : Refusal) → answer_of_run o ≡ Err why → Err why ≡ answer_of_fill (case_of bytes) schedule o
stray_is bytes schedule (refused14 k) why e = ap Err (let same : why ≡ Stray k = cc in same)
stray_is bytes schedule (cut_off k items) why e = absurd (refused_is_none why (CutOff k) (sym e))
stray_is bytes schedule (violated k s) why e = absurd (refused_is_none why (Violated k) (sym e))
stray_is bytes schedule (clean s) why e = absurd (refused_is_none why Clean (sym e))

harmless_is : (bytes schedule : List ℕ) (o : Outcome) (x : Replayed) → answer_of_run o ≡ Ok x → ((k : ℕ) → x ≢ Violated k)
    → Err NoViolation ≡ answer_of_fill (case_of bytes) schedule o
harmless_is bytes schedule (refused14 k) x e none = absurd (refused_is_none (Stray k) x e)
harmless_is bytes schedule (cut_off k items) x e none = refl
harmless_is bytes schedule (violated k s) x e none = absurd (none k (let same : x ≡ Violated k = cc in same))
harmless_is bytes schedule (clean s) x e none = refl

-- The run, to the answer to it.
module _ {bytes schedule givens zeros : List ℕ} (ok : Accepted bytes) (ready : RunReady bytes schedule givens zeros) {switches : ℕ} (is_switches : switches ≡ switch_count bytes)
    {e : Ended} {numbers : List ℕ} (traced : Traced bytes givens (take (switches + 1) schedule) zeros e numbers)
  where
    abbrev lengths : List ℕ
    lengths = take (switches + 1) schedule

    same_run : run (case_of bytes) lengths (given_by givens) ≡ run_of (case_of bytes) schedule
    same_run = run_is bytes schedule givens (Ok tt) ready.looked refl is_switches

    reply_is : {r : Result Replayed Refusal} → e.reply ≡ r → answer_of_run (run_of (case_of bytes) schedule) ≡ r
    reply_is is = sym (ap answer_of_run same_run) ∙ sym traced.replies.reply ∙ is

    pub run_refused : {why : Refusal} → e.reply ≡ Err why → RunFilled bytes schedule (Err why) numbers
    run_refused {why} is = record {
      answer = stray_is bytes schedule (run_of (case_of bytes) schedule) why (reply_is is);
      fills = λ size q. absurd (refused_is_none why size q);
    }

    pub run_harmless : {x : Replayed} → e.reply ≡ Ok x → ((k : ℕ) → x ≢ Violated k) → RunFilled bytes schedule (Err NoViolation) numbers
    run_harmless {x} is none = record {
      answer = harmless_is bytes schedule (run_of (case_of bytes) schedule) x (reply_is is) none;
      fills = λ size q. absurd (refused_is_none NoViolation size q);
    }

    -- The run has come to this state, and its trace is whole.
    record Ends : Type 0 where
      note : ℕ
      state : State
      comes : run (case_of bytes) lengths (given_by givens) ≡ violated note state
      whole : numbers ≡ whole_trace bytes givens lengths (start (case_of bytes)) zeros state.rests

    module _ {k : ℕ} (violates : e.reply ≡ Ok (Violated k)) where
      few_blocks : length lengths ≤ most_blocks
      few_blocks =
          omega (
            arith,
            length-take-le (switches + 1) schedule (enough_numbers bytes schedule givens (Ok tt) ready.looked refl is_switches),
            ok.few_switches,
            is_switches,
          )

      ends : Ends
      ends = go (run (case_of bytes) lengths (given_by givens)) refl (sym traced.replies.reply ∙ violates) (traced.traced few_blocks)
        where
          go : (o : Outcome) → run (case_of bytes) lengths (given_by givens) ≡ o → answer_of_run o ≡ Ok (Violated k)
              → AtTheEnd o (λ left. numbers ≡ whole_trace bytes givens lengths (start (case_of bytes)) zeros left) → Ends
          go (refused14 j) is a whole = absurd (let z : ◌≡◌ {A = ℕ} 0 1 = cc in omega arith)
          go (cut_off j items) is a whole = absurd (let z : ◌≡◌ {A = ℕ} 0 1 = cc in omega arith)
          go (violated j s) is a whole = record { note = j; state = s; comes = is; whole = whole }
          go (clean s) is a whole = absurd (let z : ◌≡◌ {A = ℕ} 0 1 = cc in omega arith)

      -- the assignment of a run in blocks with these lengths, from these numbers
      abbrev filling : List ℕ → (ℕ → ℕ) → List ℕ → List ℕ
      filling lens given xs =
          put_all_unrun (case_of bytes) (last_state (case_of bytes) given 0 lens (start (case_of bytes))).rests
          (put_blocks (case_of bytes) given 0 lens (start (case_of bytes)) xs)

      last_is : ends.state ≡ last_state (case_of bytes) (given_by givens) 0 lengths (start (case_of bytes))
      unfolding run
      last_is = violated_state (case_of bytes) (given_by givens) ends.note ends.state 0 lengths (start (case_of bytes)) 0 ends.comes

      pub fills_all : numbers ≡ fill (case_of bytes) schedule
      unfolding fill
      fills_all =
          ends.whole ∙ ap (λ (s : State). whole_trace bytes givens lengths (start (case_of bytes)) zeros s.rests) last_is
          ∙ ap (filling lengths (given_by givens)) ready.zeros
          ∙ ap₂ (λ (lens : List ℕ) (given : ℕ → ℕ). filling lens given (replicate (variables (case_of bytes)) 0))
          (lengths_are bytes schedule givens (Ok tt) ready.looked refl is_switches) (givens_are bytes schedule givens (Ok tt) ready.looked refl is_switches)

      comes_to : run_of (case_of bytes) schedule ≡ violated ends.note ends.state
      comes_to = sym same_run ∙ ends.comes

      late_is : first_late (case_of bytes) (record_block numbers) (case_of bytes).threads ≡ late_record (case_of bytes) schedule
      unfolding assignment_of
      late_is = ap (λ (xs : List ℕ). first_late (case_of bytes) (record_block xs) (case_of bytes).threads) fills_all

      module _ {r : Option ℕ} (is_r : r ≡ unless_0 (first_late (case_of bytes) (record_block numbers) (case_of bytes).threads)) where
        r_is : r ≡ unless_0 (late_record (case_of bytes) schedule)
        r_is = is_r ∙ ap unless_0 late_is

        pub run_late : {late : ℕ} → r ≡ Some late → RunFilled bytes schedule (Err (Late late)) numbers
        run_late is =
            let s = some_by (late_record (case_of bytes) schedule) (sym is ∙ r_is) in
            record {
              answer = ap (λ (x : ℕ). Err (Late x)) s.1 ∙ sym (ap (answer_of_fill (case_of bytes) schedule) comes_to ∙ rw (s.0));
              fills = λ size q. fills_all;
            }

        pub run_fills : r ≡ None → {size : ℕ} → size ≡ variables (case_of bytes) → RunFilled bytes schedule (Ok size) numbers
        run_fills is is_size = record {
          answer = ap Ok is_size ∙ sym (ap (answer_of_fill (case_of bytes) schedule) comes_to ∙ rw (none_by (late_record (case_of bytes) schedule) (sym is ∙ r_is)));
          fills = λ size q. fills_all;
        }

-- The numbers, to the slice.
module _ {bytes schedule numbers : List ℕ} {r : Result ℕ Refusal} (run_filled : RunFilled bytes schedule r numbers) (slice : List ℕ) where
  pub over_refused : {why : Refusal} → r ≡ Err why → Over bytes schedule slice (Err why) slice
  over_refused is = record { answer = sym is ∙ run_filled.answer; written = refl }

  pub over_written : {size : ℕ} → r ≡ Ok size → {after : List ℕ} → after ≡ written_over numbers slice → Over bytes schedule slice (Ok size) after
  over_written {size} is written = record {
    answer = sym is ∙ run_filled.answer;
    written = written ∙ ap (λ (xs : List ℕ). written_over xs slice) (run_filled.fills size is);
  }

-- The answer, and the slice after the call.
module _ (bytes schedule slice : List ℕ) where
  answers : (r : Result ℕ Refusal) (after : List ℕ) → r ≡ filled bytes schedule (length slice) → after ≡ after_answer r (fill (case_of bytes) schedule) slice
      → Answered bytes schedule slice after r
  unfolding filled_into
  answers r after er is = record { answer = er; slice = is ∙ ap (λ (x : Result ℕ Refusal). after_answer x (fill (case_of bytes) schedule) slice) er }

  module _ (accepted : verdict bytes ≡ Ok tt) {size : ℕ} (is_size : size ≡ variables (case_of bytes)) where
    pub answers_10 : length slice < size → Answered bytes schedule slice slice (Err Short)
    unfolding filled
    answers_10 short =
        answers (Err Short) slice
        (rw (on_accepted _ _ _ accepted, lt-leb (variables (case_of bytes)) (length slice) (omega (arith, short, is_size)))) refl

    module _ (room : size ≤ length slice) {check : Result (Unit {0}) Refusal} {givens : List ℕ} (looked : Looked bytes schedule check givens) where
      abbrev ran : Result ℕ Refusal
      ran = answer_of_fill (case_of bytes) schedule (run_of (case_of bytes) schedule)

      enough : variables (case_of bytes) ≤ length slice
      enough = omega (arith, room, is_size)

      pub answers_looked : {why : Refusal} → check ≡ Err why → Answered bytes schedule slice slice (Err why)
      unfolding filled
      answers_looked {why} some =
          answers (Err why) slice
          (rw (on_accepted _ _ _ accepted, le-leb (variables (case_of bytes)) (length slice) enough)
          (refused_by (case_of bytes) schedule Err ran check looked.refuses why some)) refl

      pub answers_run : check ≡ Ok tt → {r : Result ℕ Refusal} {after : List ℕ} → Over bytes schedule slice r after → Answered bytes schedule slice after r
      unfolding filled
      answers_run none {r} {after} over =
          answers r after
          (rw (on_accepted _ _ _ accepted, le-leb (variables (case_of bytes)) (length slice) enough)
          (over.answer ∙ passed_by (case_of bytes) schedule Err ran check looked.refuses none))
          over.written
