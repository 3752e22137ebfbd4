-- The replayer's replies and final values are those of the machine under "Runs": which schedules it takes, the record that each
-- answer names, and the items that it leaves.
-- Assumes nothing. Met again in Demand3.
use Rattle.std.specs.Prelude.{Result, Ok, Err}
use mathlib.Core.Path.{◌≡◌, refl, sym, ap, ◌∙◌, subst}
use Prim.Native.Nat.{ℕ, ◌≤◌}
use mathlib.Core.Bool.{Bool, true, false}
use mathlib.Core.List.{List}
use native.Mathlib.Omega.{arith}
use borrow.Author.Tests.{le-leb, eqb-true}
use lib.Dec.{eqb}
use lib.ListN.{length}
use Rattle.model.specs.Lists.{unless}
use Rattle.model.specs.CaseFile.{Case, case_of}
use Rattle.model.specs.Accept.{verdict}
use Rattle.model.specs.Machine.{Outcome, refused14, cut_off, violated, clean}
use Rattle.model.specs.Schedule.{schedule_size, block_lengths, given_in, lengths_fit, run_of}
use Rattle.model.specs.Runs.{Step, course_of, run_steps, last_items, ends, broken, Legal, Violates, InBlocks, Takes, FirstBroken, NoneBroken, FirstEnding, Meets14}
use Rattle.model.specs.Answers.{answer_of_run, items_after, replayed, replayed_into}
use Rattle.model.specs.declared.Replayed.{Replayed}
use Rattle.model.specs.declared.Replayed.TheVariants.{Violated, Clean, CutOff}
use Rattle.laws.proofs.OnCase.{on_accepted}
use Rattle.correspondence.specs.Meaning.{WellFormed}
use Rattle.correspondence.specs.Demand3.{item_room, Leaves, NotRefused}
use Rattle.correspondence.proofs.Replies.{fits_of_answered, replayed_fits}
use Rattle.correspondence.proofs.Courses.{none_has_no_first, first_is_one}
use Rattle.correspondence.proofs.Endings.{lengths_fit_lem}
use Rattle.correspondence.proofs.RunEnds.{NotMet14, not_met_has_no_record, met_at_one_record, RunEnding, met_14, ended_cut_off, ended_clean, ended_violated, run_ending}
use Rattle.model.specs.declared.Refusal.{Refusal}
use Rattle.model.specs.declared.Refusal.TheVariants as refusals

module _ (bytes : List ℕ) (accepted : verdict bytes ≡ Ok tt) (wf : WellFormed (case_of bytes)) (schedule : List ℕ) where
  abbrev case : Case
  case = case_of bytes

  abbrev given : ℕ → ℕ
  given = given_in case schedule

  -- Refusal 14 does not meet a schedule that is taken.
  taken_is_not_met : Takes case schedule → (k : ℕ) → Meets14 case schedule k → ⊥
  taken_is_not_met takes = not_met_has_no_record case schedule (takes.not_14, takes.nor_after)

  -- ---- Between the reply and the run, with this room.
  module _ (room : ℕ) (h : item_room bytes ≤ room) where
    replies_of_run : Takes case schedule → (o : Outcome) → run_of case schedule ≡ o → replayed bytes schedule room ≡ answer_of_run o
    replies_of_run takes o e =
        replayed_fits bytes schedule room (record { accepted = accepted; has_room = h; has_size = takes.not_12; fit = takes.not_13 })
        ∙ ap answer_of_run e

    answer_of_run_lem : NotRefused (replayed bytes schedule room) → replayed bytes schedule room ≡ answer_of_run (run_of case schedule)
    answer_of_run_lem answered = replayed_fits bytes schedule room (fits_of_answered bytes schedule room answered)

    -- What a reply that is no refusal says of the schedule.
    pub takes_of_answered : NotRefused (replayed bytes schedule room) → Takes case schedule
    takes_of_answered answered =
        let fits = fits_of_answered bytes schedule room answered in
        let other = go (run_ending case wf schedule) in
        record { not_12 = fits.has_size; not_13 = fits.fit; not_14 = other.0; nor_after = other.1 }
      where
        go : RunEnding case wf schedule → NotMet14 case schedule
        go (met_14 k found e) = absurd (subst NotRefused (answer_of_run_lem answered ∙ ap answer_of_run e) answered)
        go (ended_cut_off s other first e) = other
        go (ended_clean other legal unbroken e) = other
        go (ended_violated s other legal first e) = other

    pub answered_of_takes : Takes case schedule → NotRefused (replayed bytes schedule room)
    answered_of_takes takes = go (run_ending case wf schedule)
      where
        go : RunEnding case wf schedule → NotRefused (replayed bytes schedule room)
        go (met_14 k found e) = absurd (taken_is_not_met takes k found)
        go (ended_cut_off s other first e) = subst NotRefused (sym (replies_of_run takes _ e)) tt
        go (ended_clean other legal unbroken e) = subst NotRefused (sym (replies_of_run takes _ e)) tt
        go (ended_violated s other legal first e) = subst NotRefused (sym (replies_of_run takes _ e)) tt

    -- ---- The answers.
    -- What the run's outcome would be answered with is the reply.
    outcome_answers : (r : Result Replayed Refusal) → NotRefused r → replayed bytes schedule room ≡ r → (o : Outcome) → run_of case schedule ≡ o → answer_of_run o ≡ r
    outcome_answers r answered reply o e =
        sym (answer_of_run_lem (subst NotRefused (sym reply) answered) ∙ ap answer_of_run e) ∙ reply

    pub run_of_violated : (k : ℕ) → replayed bytes schedule room ≡ Ok (Violated k) → Takes case schedule × Violates case schedule × FirstBroken case schedule k
    run_of_violated k reply = go (run_ending case wf schedule)
      where
        takes : Takes case schedule
        takes = takes_of_answered (subst NotRefused (sym reply) tt)

        go : RunEnding case wf schedule → Takes case schedule × Violates case schedule × FirstBroken case schedule k
        go (met_14 k' found e) =
            let q : Err (refusals.Stray k') ≡ Ok (Violated k) = outcome_answers (Ok (Violated k)) tt reply _ e in
            absurd (let z : ◌≡◌ {A = ℕ} 0 1 = cc in omega arith)
        go (ended_cut_off s other first e) =
            let q : Ok (CutOff s.line.number) ≡ Ok (Violated k) = outcome_answers (Ok (Violated k)) tt reply _ e in
            absurd (let z : ◌≡◌ {A = ℕ} 0 1 = cc in omega arith)
        go (ended_clean other legal unbroken e) =
            let q : Ok Clean ≡ Ok (Violated k) = outcome_answers (Ok (Violated k)) tt reply _ e in absurd (let z : ◌≡◌ {A = ℕ} 0 1 = cc in omega arith)
        go (ended_violated s other legal first e) =
            let q : Ok (Violated s.line.number) ≡ Ok (Violated k) = outcome_answers (Ok (Violated k)) tt reply _ e in
            let z : s.line.number ≡ k = cc in
            let found : FirstBroken case schedule k = (s, first, z) in
            (takes, record { legal = legal; some_broken = (k, found) }, found)

    pub violated_of_run : (k : ℕ) → Takes case schedule → Legal case schedule → FirstBroken case schedule k → replayed bytes schedule room ≡ Ok (Violated k)
    violated_of_run k takes legal found = go (run_ending case wf schedule)
      where
        go : RunEnding case wf schedule → replayed bytes schedule room ≡ Ok (Violated k)
        go (met_14 k' found' e) = absurd (taken_is_not_met takes k' found')
        go (ended_cut_off s other first e) = absurd (none_has_no_first (ends case given) (course_of case schedule) s legal first)
        go (ended_clean other _ unbroken e) = absurd (none_has_no_first (broken case given) (run_steps case schedule) found.0 unbroken found.1)
        go (ended_violated s other _ first e) =
            replies_of_run takes _ e
            ∙ ap (λ (x : Step). Ok (Violated x.line.number)) (first_is_one (broken case given) (run_steps case schedule) s found.0 first found.1)
            ∙ ap (λ (k : ℕ). Ok (Violated k)) found.2

    pub run_of_clean : replayed bytes schedule room ≡ Ok Clean → Takes case schedule × Legal case schedule × NoneBroken case schedule
    run_of_clean reply = go (run_ending case wf schedule)
      where
        go : RunEnding case wf schedule → Takes case schedule × Legal case schedule × NoneBroken case schedule
        go (met_14 k found e) =
            let q : Err (refusals.Stray k) ≡ Ok Clean = outcome_answers (Ok Clean) tt reply _ e in absurd (let z : ◌≡◌ {A = ℕ} 0 1 = cc in omega arith)
        go (ended_cut_off s other first e) =
            let q : Ok (CutOff s.line.number) ≡ Ok Clean = outcome_answers (Ok Clean) tt reply _ e in absurd (let z : ◌≡◌ {A = ℕ} 0 1 = cc in omega arith)
        go (ended_clean other legal unbroken e) = (takes_of_answered (subst NotRefused (sym reply) tt), legal, unbroken)
        go (ended_violated s other legal first e) =
            let q : Ok (Violated s.line.number) ≡ Ok Clean = outcome_answers (Ok Clean) tt reply _ e in absurd (let z : ◌≡◌ {A = ℕ} 0 1 = cc in omega arith)

    pub clean_of_run : Takes case schedule → Legal case schedule → NoneBroken case schedule → replayed bytes schedule room ≡ Ok Clean
    clean_of_run takes legal unbroken = go (run_ending case wf schedule)
      where
        go : RunEnding case wf schedule → replayed bytes schedule room ≡ Ok Clean
        go (met_14 k found e) = absurd (taken_is_not_met takes k found)
        go (ended_cut_off s other first e) = absurd (none_has_no_first (ends case given) (course_of case schedule) s legal first)
        go (ended_clean other _ _ e) = replies_of_run takes _ e
        go (ended_violated s other _ first e) = absurd (none_has_no_first (broken case given) (run_steps case schedule) s unbroken first)

    pub run_of_cut_off : (k : ℕ) → replayed bytes schedule room ≡ Ok (CutOff k)
        → Takes case schedule × ((s : Step) × FirstEnding case schedule s × (s.line.number ≡ k))
    run_of_cut_off k reply = go (run_ending case wf schedule)
      where
        go : RunEnding case wf schedule → Takes case schedule × ((s : Step) × FirstEnding case schedule s × (s.line.number ≡ k))
        go (met_14 k' found e) =
            let q : Err (refusals.Stray k') ≡ Ok (CutOff k) = outcome_answers (Ok (CutOff k)) tt reply _ e in
            absurd (let z : ◌≡◌ {A = ℕ} 0 1 = cc in omega arith)
        go (ended_cut_off s other first e) =
            let q : Ok (CutOff s.line.number) ≡ Ok (CutOff k) = outcome_answers (Ok (CutOff k)) tt reply _ e in
            (takes_of_answered (subst NotRefused (sym reply) tt), (s, first, (let z : s.line.number ≡ k = cc in z)))
        go (ended_clean other legal unbroken e) =
            let q : Ok Clean ≡ Ok (CutOff k) = outcome_answers (Ok (CutOff k)) tt reply _ e in absurd (let z : ◌≡◌ {A = ℕ} 0 1 = cc in omega arith)
        go (ended_violated s other legal first e) =
            let q : Ok (Violated s.line.number) ≡ Ok (CutOff k) = outcome_answers (Ok (CutOff k)) tt reply _ e in
            absurd (let z : ◌≡◌ {A = ℕ} 0 1 = cc in omega arith)

    -- ---- Refusal 14.
    reply_by_size : replayed bytes schedule room
        ≡ unless (eqb (length schedule) (schedule_size case)) (Err refusals.Schedule)
        (unless (lengths_fit case (block_lengths case schedule)) (Err refusals.Lengths) (answer_of_run (run_of case schedule)))
    unfolding replayed
    reply_by_size = rw (on_accepted _ _ _ accepted, le-leb (item_room bytes) room h)

    pub run_of_14 : (k : ℕ) → replayed bytes schedule room ≡ Err (refusals.Stray k)
        → (length schedule ≡ schedule_size case) × (lengths_fit case (block_lengths case schedule) ≡ true) × Meets14 case schedule k
    run_of_14 k reply =
        go (eqb (length schedule) (schedule_size case)) refl (lengths_fit case (block_lengths case schedule)) refl (run_ending case wf schedule)
        (sym reply_by_size ∙ reply)
      where
        go : (sized : Bool) → eqb (length schedule) (schedule_size case) ≡ sized → (fit : Bool) → lengths_fit case (block_lengths case schedule) ≡ fit
            → RunEnding case wf schedule → unless sized (Err refusals.Schedule) (unless fit (Err refusals.Lengths) (answer_of_run (run_of case schedule))) ≡ Err (refusals.Stray k)
            → (length schedule ≡ schedule_size case) × (lengths_fit case (block_lengths case schedule) ≡ true) × Meets14 case schedule k
        go false p fit q ends_so e = let z : ◌≡◌ {A = ℕ} 12 14 = cc in absurd (omega arith)
        go true p false q ends_so e = let z : ◌≡◌ {A = ℕ} 13 14 = cc in absurd (omega arith)
        go true p true q (met_14 k' found is) e =
            let reply_14 : Err (refusals.Stray k') ≡ Err (refusals.Stray k) = sym (ap answer_of_run is) ∙ e in
            let z : k' ≡ k = cc in (eqb-true (length schedule) (schedule_size case) p, q, subst (Meets14 case schedule) z found)
        go true p true q (ended_cut_off s other first is) e =
            let other : Ok (CutOff s.line.number) ≡ Err (refusals.Stray k) = sym (ap answer_of_run is) ∙ e in absurd (let z : ◌≡◌ {A = ℕ} 0 1 = cc in omega arith)
        go true p true q (ended_clean other legal unbroken is) e =
            let other : Ok Clean ≡ Err (refusals.Stray k) = sym (ap answer_of_run is) ∙ e in absurd (let z : ◌≡◌ {A = ℕ} 0 1 = cc in omega arith)
        go true p true q (ended_violated s other legal first is) e =
            let other : Ok (Violated s.line.number) ≡ Err (refusals.Stray k) = sym (ap answer_of_run is) ∙ e in absurd (let z : ◌≡◌ {A = ℕ} 0 1 = cc in omega arith)

    pub refused_14_of_run : (k : ℕ) → length schedule ≡ schedule_size case → lengths_fit case (block_lengths case schedule) ≡ true
        → Meets14 case schedule k → replayed bytes schedule room ≡ Err (refusals.Stray k)
    refused_14_of_run k sized fit found =
        replayed_fits bytes schedule room (record { accepted = accepted; has_room = h; has_size = sized; fit = fit })
        ∙ ap answer_of_run (go (run_ending case wf schedule))
      where
        go : RunEnding case wf schedule → run_of case schedule ≡ refused14 k
        go (met_14 k' found' e) = e ∙ ap refused14 (met_at_one_record case schedule k' k found' found)
        go (ended_cut_off s other first e) = absurd (not_met_has_no_record case schedule other k found)
        go (ended_clean other legal unbroken e) = absurd (not_met_has_no_record case schedule other k found)
        go (ended_violated s other legal first e) = absurd (not_met_has_no_record case schedule other k found)

  -- The outcome at the first line that ends the run.
  outcome_of_cut_off : Takes case schedule → (s : Step) → FirstEnding case schedule s → run_of case schedule ≡ cut_off s.line.number s.memory.items
  outcome_of_cut_off takes s found = go (run_ending case wf schedule)
    where
      go : RunEnding case wf schedule → run_of case schedule ≡ cut_off s.line.number s.memory.items
      go (met_14 k found' e) = absurd (taken_is_not_met takes k found')
      go (ended_cut_off s' other first e) =
          e ∙ ap (λ (x : Step). cut_off x.line.number x.memory.items) (first_is_one (ends case given) (course_of case schedule) s' s first found)
      go (ended_clean other legal _ e) = absurd (none_has_no_first (ends case given) (course_of case schedule) s legal found)
      go (ended_violated _ other legal _ e) = absurd (none_has_no_first (ends case given) (course_of case schedule) s legal found)

  pub cut_off_of_run : (room : ℕ) → item_room bytes ≤ room → (k : ℕ) → Takes case schedule → (s : Step) → FirstEnding case schedule s
      → s.line.number ≡ k → replayed bytes schedule room ≡ Ok (CutOff k)
  cut_off_of_run room h k takes s found is = replies_of_run room h takes _ (outcome_of_cut_off takes s found) ∙ ap (λ (k : ℕ). Ok (CutOff k)) is

  -- ---- The final values.
  leaves_of_run : Takes case schedule → (o : Outcome) → run_of case schedule ≡ o → NotRefused (answer_of_run o) → Leaves bytes schedule (items_after o)
  unfolding replayed_into
  leaves_of_run takes (refused14 k) e answered slice h = absurd answered
  leaves_of_run takes (cut_off k items) e answered slice h = rw (replies_of_run (length slice) h takes (cut_off k items) e, e)
  leaves_of_run takes (violated k items) e answered slice h = rw (replies_of_run (length slice) h takes (violated k items) e, e)
  leaves_of_run takes (clean items) e answered slice h = rw (replies_of_run (length slice) h takes (clean items) e, e)

  pub values_of_cut_off : Takes case schedule → (s : Step) → FirstEnding case schedule s → Leaves bytes schedule s.memory.items
  values_of_cut_off takes s found = leaves_of_run takes _ (outcome_of_cut_off takes s found) tt

  pub values_of_legal : Takes case schedule → Legal case schedule → Leaves bytes schedule (last_items case schedule)
  values_of_legal takes legal = go (run_ending case wf schedule)
    where
      go : RunEnding case wf schedule → Leaves bytes schedule (last_items case schedule)
      go (met_14 k found e) = absurd (taken_is_not_met takes k found)
      go (ended_cut_off s other first e) = absurd (none_has_no_first (ends case given) (course_of case schedule) s legal first)
      go (ended_clean other _ _ e) = leaves_of_run takes _ e tt
      go (ended_violated s other _ _ e) = leaves_of_run takes _ e tt

  -- A run in blocks 0 to n is that of a schedule that is taken.
  pub takes_of_in_blocks : InBlocks case schedule → Takes case schedule
  takes_of_in_blocks blocks = record {
    not_12 = blocks.has_size;
    not_13 = lengths_fit_lem case (block_lengths case schedule) blocks.few_steps_lem;
    not_14 = blocks.none_strays_lem;
    nor_after = blocks.none_left;
  }
