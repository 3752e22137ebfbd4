-- Six: what the filler answers by how a schedule's run ends, and what its answers say of the run.
-- Assumes nothing. Met again in Demand3.
use Rattle.std.specs.Prelude.{Result, Ok, Err}
use mathlib.Core.Path.{◌≡◌, refl, sym, ap, ◌∙◌, subst}
use Prim.Native.Nat.{ℕ, ◌≤◌, ◌<◌}
use mathlib.Core.Bool.{Bool, true, false}
use mathlib.Core.List.{List}
use native.Mathlib.Omega.{arith}
use borrow.Author.Tests.{le-leb, lt-leb, eq-eqb, ne_eqb}
use lib.Dec.{eqb}
use lib.ListN.{length}
use Rattle.model.specs.Lists.{unless}
use Rattle.model.specs.CaseFile.{Case, case_of}
use Rattle.model.specs.Accept.{verdict}
use Rattle.model.specs.Assignment.{variables}
use Rattle.model.specs.Machine.{Outcome, refused14, cut_off, violated, clean}
use Rattle.model.specs.Schedule.{schedule_size, block_lengths, lengths_fit, run_of}
use Rattle.model.specs.Answers.{answer_of_run, answer_of_fill, late_record, replayed, filled}
use Rattle.model.specs.declared.Replayed.{Replayed}
use Rattle.model.specs.declared.Replayed.TheVariants as replayeds
use Rattle.laws.proofs.OnCase.{on_accepted}
use Rattle.laws.proofs.Views.{EqView, same, diff, eq_view}
use Rattle.correspondence.specs.Demand3.{item_room, assignment_room, NoViolation}
use Rattle.model.specs.declared.Refusal.{Refusal}
use Rattle.model.specs.declared.Refusal.TheVariants as refusals
use Rattle.model.specs.Refusals.{refusal_number}

-- The answer is given to runs that violate only.
abbrev pub OfViolation : Result ℕ Refusal → Type 0
OfViolation (Ok numbers) = Unit
OfViolation (Err e) = 16 < refusal_number e

-- The filler's answer to a run that the replayer answers so, and what both answer to a schedule with a wrong length or wrong lengths.
abbrev pub alike : Result Replayed Refusal → Result ℕ Refusal → Result ℕ Refusal
alike (Ok (replayeds.Violated k)) violating = violating
alike (Ok replayeds.Clean) violating = Err refusals.NoViolation
alike (Ok (replayeds.CutOff k)) violating = Err refusals.NoViolation
alike (Err e) violating = Err e

-- The replayer's refusals of an accepted case, with room, are 12 to 14.
abbrev AtMost14 : Result Replayed Refusal → Type 0
AtMost14 (Ok reply) = Unit
AtMost14 (Err e) = refusal_number e ≤ 14

-- What is answered to a run that violates.
abbrev pub violating_in : Case → List ℕ → Result ℕ Refusal
violating_in case schedule = unless (eqb (late_record case schedule) 0) (Err (refusals.Late (late_record case schedule))) (Ok (variables case))

module _ (bytes : List ℕ) (accepted : verdict bytes ≡ Ok tt) (schedule : List ℕ) where
  abbrev case : Case
  case = case_of bytes

  abbrev violating : Result ℕ Refusal
  violating = violating_in case schedule

  pub filled_short : (room : ℕ) → room < assignment_room bytes → filled bytes schedule room ≡ Err refusals.Short
  unfolding filled
  filled_short room h = rw (on_accepted _ _ _ accepted, lt-leb _ _ h)

  answers_alike : (o : Outcome) → answer_of_fill case schedule o ≡ alike (answer_of_run o) violating
  answers_alike (refused14 k) = refl
  answers_alike (cut_off k items) = refl
  answers_alike (violated k s) = refl
  answers_alike (clean s) = refl

  -- With room for both, the filler answers what the replayer does, but for runs that end.
  module _ (room items : ℕ) (h : assignment_room bytes ≤ room) (h' : item_room bytes ≤ items) where
    pub filled_like_replayed : filled bytes schedule room ≡ alike (replayed bytes schedule items) violating
    unfolding filled replayed
    filled_like_replayed =
        rw (on_accepted {A = Result ℕ Refusal} _ _ _ accepted, on_accepted {A = Result Replayed Refusal} _ _ _ accepted, le-leb _ _ h, le-leb _ _ h')
        (go (eqb (length schedule) (schedule_size case)) (lengths_fit case (block_lengths case schedule)))
      where
        go : (sized fit : Bool) → unless sized (Err refusals.Schedule) (unless fit (Err refusals.Lengths) (answer_of_fill case schedule (run_of case schedule)))
            ≡ alike (unless sized (Err refusals.Schedule) (unless fit (Err refusals.Lengths) (answer_of_run (run_of case schedule)))) violating
        go false fit = refl
        go true false = refl
        go true true = answers_alike (run_of case schedule)

    replayed_at_most_14 : AtMost14 (replayed bytes schedule items)
    unfolding replayed
    replayed_at_most_14 =
        rw (on_accepted _ _ _ accepted, le-leb _ _ h') (go (eqb (length schedule) (schedule_size case)) (lengths_fit case (block_lengths case schedule)) (run_of case schedule))
      where
        go : (sized fit : Bool) (o : Outcome) → AtMost14 (unless sized (Err refusals.Schedule) (unless fit (Err refusals.Lengths) (answer_of_run o)))
        go false fit o = omega arith
        go true false o = omega arith
        go true true (refused14 k) = omega arith
        go true true (cut_off k items) = tt
        go true true (violated k s) = tt
        go true true (clean s) = tt

    -- ---- 16.
    pub refused_16 : NoViolation (replayed bytes schedule items) → filled bytes schedule room ≡ Err refusals.NoViolation
    refused_16 other = filled_like_replayed ∙ go (replayed bytes schedule items) other
      where
        go : (r : Result Replayed Refusal) → NoViolation r → alike r violating ≡ Err refusals.NoViolation
        go (Ok (replayeds.Violated k)) other = absurd other
        go (Ok replayeds.Clean) other = refl
        go (Ok (replayeds.CutOff k)) other = refl
        go (Err e) other = absurd other

    pub no_violation_of_16 : filled bytes schedule room ≡ Err refusals.NoViolation → NoViolation (replayed bytes schedule items)
    no_violation_of_16 told = go (replayed bytes schedule items) replayed_at_most_14 (sym filled_like_replayed ∙ told)
      where
        never : (late : ℕ) → EqView late 0 → unless (eqb late 0) (Err (refusals.Late late)) (Ok (variables case)) ≡ Err refusals.NoViolation → ⊥
        never late (same _ q) e = let e' : Ok (variables case) ≡ Err refusals.NoViolation = rw q at e in let z : ◌≡◌ {A = ℕ} 0 1 = cc in omega arith
        never late (diff _ q) e = let e' : Err (refusals.Late late) ≡ Err refusals.NoViolation = rw q at e in let z : refusals.Late late ≡ refusals.NoViolation = cc in omega (arith, ap refusal_number z)

        go : (r : Result Replayed Refusal) → AtMost14 r → alike r violating ≡ Err refusals.NoViolation → NoViolation r
        go (Ok (replayeds.Violated k)) low e = never (late_record case schedule) (eq_view (late_record case schedule) 0) e
        go (Ok replayeds.Clean) low e = tt
        go (Ok (replayeds.CutOff k)) low e = tt
        go (Err r) low e = let z : r ≡ refusals.NoViolation = cc in absurd (omega (arith, low, ap refusal_number z))

    -- ---- 17, and no refusal.
    pub filled_of_violated : (k : ℕ) → replayed bytes schedule items ≡ Ok (replayeds.Violated k) → filled bytes schedule room ≡ violating
    filled_of_violated k reply = filled_like_replayed ∙ ap (λ (r : Result Replayed Refusal). alike r violating) reply

    pub violated_of_filled : OfViolation (filled bytes schedule room) → (k : ℕ) × (replayed bytes schedule items ≡ Ok (replayeds.Violated k))
    violated_of_filled told = go (replayed bytes schedule items) refl replayed_at_most_14 (subst OfViolation filled_like_replayed told)
      where
        go : (r : Result Replayed Refusal) → replayed bytes schedule items ≡ r → AtMost14 r → OfViolation (alike r violating) → (k : ℕ) × (replayed bytes schedule items ≡ Ok (replayeds.Violated k))
        go (Ok (replayeds.Violated k)) e low told = (k, e)
        go (Ok replayeds.Clean) e low told = absurd (omega (arith, told))
        go (Ok (replayeds.CutOff k)) e low told = absurd (omega (arith, told))
        go (Err r) e low told = absurd (omega (arith, told, low))

-- ---- What is answered to a run that violates, by its first late line.
module _ (late size : ℕ) where
  abbrev answer : Result ℕ Refusal
  answer = unless (eqb late 0) (Err (refusals.Late late)) (Ok size)

  pub filled_of_none : late ≡ 0 → answer ≡ Ok size
  filled_of_none e = rw (eq-eqb late 0 e)

  pub refused_17 : 0 < late → answer ≡ Err (refusals.Late late)
  refused_17 some = rw (ne_eqb late 0 (λ e. omega (arith, e, some)))

  pub none_of_filled : (numbers : ℕ) → answer ≡ Ok numbers → late ≡ 0
  none_of_filled numbers told = go (eq_view late 0)
    where
      go : EqView late 0 → late ≡ 0
      go (same e q) = e
      go (diff e q) = let other : Err (refusals.Late late) ≡ Ok numbers = rw q at told in absurd (let z : ◌≡◌ {A = ℕ} 0 1 = cc in omega arith)

  pub late_of_17 : (k : ℕ) → answer ≡ Err (refusals.Late k) → (0 < late) × (late ≡ k)
  late_of_17 k told = go (eq_view late 0)
    where
      go : EqView late 0 → (0 < late) × (late ≡ k)
      go (same e q) = let other : Ok size ≡ Err (refusals.Late k) = rw q at told in absurd (let z : ◌≡◌ {A = ℕ} 0 1 = cc in omega arith)
      go (diff e q) = let other : Err (refusals.Late late) ≡ Err (refusals.Late k) = rw q at told in let z : late ≡ k = cc in (omega (arith, e), z)
