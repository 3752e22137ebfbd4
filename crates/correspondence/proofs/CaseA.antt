-- Case A of document 01, from its bytes: its listing, as numbers and as text, and P1 to P10 as one table, over what the calls answer
-- and, where it speaks of runs, over these too.
-- Assumes nothing. Its bytes are met again in Examples, Refusals and Conventions.
use Rattle.std.specs.Prelude.{Ok}
use mathlib.Core.Path.{◌≡◌, refl, sym, ap, ◌∙◌, subst}
use mathlib.Core.Logic.{◌↔◌, ◌⊎◌, inl, inr}
use Prim.Native.Nat.{ℕ, zero, suc, ◌≤◌, ◌<◌}
use Prim.Native.Char.{code}
use Prim.Native.String.{String, [] as nothing, ◌∷◌ as ◌then◌}
use mathlib.Core.Bool.{Bool, true, cond, ◌||◌, true≢false}
use mathlib.Core.List.{List, [], ◌∷◌, ◌++◌}
use native.Mathlib.Omega.{arith}
use native.Mathlib.Nat.{le_refl}
use lib.ListN.{length, replicate}
use Rattle.model.specs.Word.{word_size, AllBelow}
use Rattle.model.specs.CaseFile.{records, switch_count, case_of, lines_of}
use Rattle.model.specs.Accept.{verdict}
use Rattle.model.specs.Schedule.{schedule_size, lengths_fit, run_of}
use Rattle.model.specs.Runs.{KeepsRule, Legal, NoneBroken, InBlocks}
use Rattle.model.specs.Answers.{answer_of_run, encoded, encoded_into, checked, decoded_into, replayed}
use Rattle.model.specs.Listing.{listing_text}
use Rattle.model.specs.declared.Checked.TheVariants.{Meets}
use Rattle.model.specs.declared.Replayed.TheVariants.{Violated, Clean}
use Rattle.laws.proofs.Accepted.{accepted_of}
use Rattle.correspondence.specs.Meaning.{WellFormed}
use Rattle.correspondence.specs.Demand3.{item_room, NotRefused, ViolatingRun, Demand3}
use Rattle.correspondence.proofs.Computing.{computing}
use Rattle.correspondence.proofs.WellFormed.{well_formed}
use Rattle.correspondence.proofs.Replies.{fits_of_answered, replayed_fits}
use Rattle.correspondence.proofs.RunReplies.{takes_of_in_blocks}
use Rattle.correspondence.proofs.Demand3.{demand_3}
use Rattle.correspondence.proofs.EverySchedule.{is_clean, clean_is, same, same_is, below_is, below, either_is, all_lists, each_that_fits}
use Rattle.correspondence.proofs.NoLines.{OneConstraintMetByNothing, one_constraint_met_by_nothing}

-- Fields below 256 as bytes, low byte first.
unfoldable pub bytes_of : List ℕ → List ℕ
bytes_of [] = []
bytes_of (x ∷ xs) = x ∷ (0 ∷ bytes_of xs)

-- "T 2, n 2, G 1, M 0, first records 1 and 5, initial value 0", with n as given.
unfoldable pub case_a : ℕ → List ℕ
unfolding bytes_of
case_a n = bytes_of (
    2 ∷ n ∷ 1 ∷ 0 ∷ 1 ∷ 5 ∷ 0 ∷ 0 ∷ 0 ∷ 0 ∷ 0 ∷ 0 ∷ 0 ∷ 0 ∷ 0 ∷ 0
    ∷ 2 ∷ 3 ∷ 0 ∷ 0 ∷ 0 ∷ 0 ∷ 0 ∷ 0
    ∷ 3 ∷ 2 ∷ 0 ∷ 0 ∷ 1 ∷ 0 ∷ 16 ∷ 1
    ∷ 4 ∷ 3 ∷ 0 ∷ 1 ∷ 0 ∷ 0 ∷ 0 ∷ 0
    ∷ 0 ∷ 5 ∷ 0 ∷ 0 ∷ 5 ∷ 1 ∷ 16 ∷ 1
    ∷ 0 ∷ 2 ∷ 0 ∷ 0 ∷ 0 ∷ 16 ∷ 0 ∷ 5
    ∷ [])

-- The listing's rows, as the encoder writes them. Five: "case A's listing then begins 19 12 and has 8 4 3 0 0 0 after 3 4 2 0 0 0".
unfoldable pub listing_a : List ℕ
listing_a =
    3 ∷ 1 ∷ 2 ∷ 0 ∷ 0 ∷ 0
    ∷ 1 ∷ 1 ∷ 2 ∷ 0 ∷ 0 ∷ 0
    ∷ 3 ∷ 2 ∷ 2 ∷ 0 ∷ 0 ∷ 0
    ∷ 1 ∷ 2 ∷ 3 ∷ 0 ∷ 0 ∷ 0
    ∷ 3 ∷ 3 ∷ 2 ∷ 0 ∷ 0 ∷ 0
    ∷ 1 ∷ 3 ∷ 4 ∷ 0 ∷ 0 ∷ 0
    ∷ 3 ∷ 4 ∷ 2 ∷ 0 ∷ 0 ∷ 0
    ∷ 8 ∷ 4 ∷ 3 ∷ 0 ∷ 0 ∷ 0
    ∷ 2 ∷ 4 ∷ 2 ∷ 0 ∷ 0 ∷ 0
    ∷ 3 ∷ 5 ∷ 2 ∷ 1 ∷ 0 ∷ 0
    ∷ 2 ∷ 5 ∷ 2 ∷ 0 ∷ 0 ∷ 0
    ∷ 4 ∷ 1 ∷ 0 ∷ 0 ∷ 0 ∷ 0
    ∷ 4 ∷ 2 ∷ 0 ∷ 1 ∷ 0 ∷ 0
    ∷ 4 ∷ 3 ∷ 0 ∷ 2 ∷ 0 ∷ 0
    ∷ 4 ∷ 4 ∷ 0 ∷ 3 ∷ 0 ∷ 0
    ∷ 4 ∷ 5 ∷ 0 ∷ 0 ∷ 0 ∷ 0
    ∷ 6 ∷ 0 ∷ 0 ∷ 2 ∷ 0 ∷ 0
    ∷ 6 ∷ 0 ∷ 1 ∷ 5 ∷ 0 ∷ 0
    ∷ 7 ∷ 0 ∷ 0 ∷ 0 ∷ 0 ∷ 0
    ∷ []

-- A text as its characters' codes, and lines of text, each ended by a line feed.
unfoldable pub codes_of : String → List ℕ
codes_of nothing = []
codes_of (character then rest) = code character ∷ codes_of rest

unfoldable pub lines_of_text : List String → List ℕ
lines_of_text [] = []
lines_of_text (line ∷ lines) = codes_of line ++ (10 ∷ lines_of_text lines)

-- "prints the count of constraints and of variables, then one constraint a line"
unfoldable pub text_a : List ℕ
unfolding codes_of lines_of_text
text_a = lines_of_text (
    "19 12"
    ∷ "3 1 2 0 0 0"
    ∷ "1 1 2 0 0 0"
    ∷ "3 2 2 0 0 0"
    ∷ "1 2 3 0 0 0"
    ∷ "3 3 2 0 0 0"
    ∷ "1 3 4 0 0 0"
    ∷ "3 4 2 0 0 0"
    ∷ "8 4 3 0 0 0"
    ∷ "2 4 2 0 0 0"
    ∷ "3 5 2 1 0 0"
    ∷ "2 5 2 0 0 0"
    ∷ "4 1 0 0 0 0"
    ∷ "4 2 0 1 0 0"
    ∷ "4 3 0 2 0 0"
    ∷ "4 4 0 3 0 0"
    ∷ "4 5 0 0 0 0"
    ∷ "6 0 0 2 0 0"
    ∷ "6 0 1 5 0 0"
    ∷ "7 0 0 0 0 0"
    ∷ [])

-- The schedules of P1 and P2; and this one is either.
abbrev pub schedule_p1 : List ℕ
schedule_p1 = 2 ∷ 1 ∷ 2 ∷ []

abbrev pub schedule_p2 : List ℕ
schedule_p2 = 0 ∷ 1 ∷ 4 ∷ []

abbrev pub OneOfTheTwo : List ℕ → Type 0
OneOfTheTwo schedule = (schedule ≡ schedule_p1) ⊎ (schedule ≡ schedule_p2)

-- "every run is clean": none is cut off or violates, and every schedule that is not refused is answered with clean.
pub record EveryRunIsClean (bytes : List ℕ) : Type 0 where
  pub runs : (schedule : List ℕ) → InBlocks (case_of bytes) schedule → Legal (case_of bytes) schedule × NoneBroken (case_of bytes) schedule
  pub answers : (schedule : List ℕ) (room : ℕ) → NotRefused (replayed bytes schedule room) → replayed bytes schedule room ≡ Ok Clean

-- Document 01: "To be proved, as one table". One item, so one number of room for the final values.
pub record CaseA : Type 0 where
  pub accepted : verdict (case_a 2) ≡ Ok tt
  pub counts : encoded (case_a 2) 114 ≡ Ok (record { constraints = 19; variables = 12 })
  pub listing : encoded_into (case_a 2) (replicate 114 0) ≡ listing_a
  pub text : listing_text (case_a 2) ≡ text_a
  pub p1 : replayed (case_a 2) (2 ∷ 1 ∷ 2 ∷ []) 1 ≡ Ok (Violated 4)
  pub p2 : replayed (case_a 2) (0 ∷ 1 ∷ 4 ∷ []) 1 ≡ Ok (Violated 4)
  pub p3 : replayed (case_a 2) (1 ∷ 1 ∷ 3 ∷ []) 1 ≡ Ok Clean
  pub p4 : replayed (case_a 2) (3 ∷ 1 ∷ 1 ∷ []) 1 ≡ Ok Clean
  pub p5 : replayed (case_a 2) (4 ∷ 1 ∷ 0 ∷ []) 1 ≡ Ok Clean
  pub p6 : checked (case_a 2) (0 ∷ 0 ∷ 0 ∷ 1 ∷ 2 ∷ 5 ∷ 2 ∷ 0 ∷ 1 ∷ 5 ∷ 1 ∷ 5 ∷ []) ≡ Ok Meets
  pub p6_decodes : decoded_into (case_a 2) (0 ∷ 0 ∷ 0 ∷ 1 ∷ 2 ∷ 5 ∷ 2 ∷ 0 ∷ 1 ∷ 5 ∷ 1 ∷ 5 ∷ []) (replicate 3 0) ≡ 2 ∷ 1 ∷ 2 ∷ []
  pub p7 : checked (case_a 2) (2 ∷ 5 ∷ 2 ∷ 6 ∷ 2 ∷ 6 ∷ 2 ∷ 0 ∷ 1 ∷ 5 ∷ 0 ∷ 5 ∷ []) ≡ Ok Meets
  pub p7_decodes : decoded_into (case_a 2) (2 ∷ 5 ∷ 2 ∷ 6 ∷ 2 ∷ 6 ∷ 2 ∷ 0 ∷ 1 ∷ 5 ∷ 0 ∷ 5 ∷ []) (replicate 3 0) ≡ 0 ∷ 1 ∷ 4 ∷ []
  -- Two: "Case A keeps its two violating schedules": the runs that violate are theirs, and no other schedule is answered with violated.
  pub two_violating_runs : (schedule : List ℕ) → ViolatingRun (case_a 2) schedule ↔ OneOfTheTwo schedule
  pub two_violated : (schedule : List ℕ) (room k : ℕ) → (replayed (case_a 2) schedule room ≡ Ok (Violated k)) ↔ ((1 ≤ room) × (k ≡ 4) × OneOfTheTwo schedule)
  -- Five: both keep the rule, so they are the two that assignments decode to; P4's does not, since its assert is run after a switch.
  pub two_keep_the_rule : (schedule : List ℕ) → OneOfTheTwo schedule → KeepsRule (case_of (case_a 2)) schedule
  pub p4_breaks_the_rule : KeepsRule (case_of (case_a 2)) (3 ∷ 1 ∷ 1 ∷ []) → ⊥
  -- Two: "P8 and P9 become: every run is clean." There are runs: here those with the most steps.
  pub p8 : EveryRunIsClean (case_a 0)
  pub p8_most_steps : replayed (case_a 0) (4 ∷ []) 1 ≡ Ok Clean
  pub p9 : EveryRunIsClean (case_a 1)
  pub p9_most_steps : replayed (case_a 1) (4 ∷ 1 ∷ []) 1 ≡ Ok Clean
  pub p10 : (bytes : List ℕ) → verdict bytes ≡ Ok tt → records bytes ≡ 0 → switch_count bytes ≡ 0 → OneConstraintMetByNothing bytes

-- ---- Every schedule, tried

-- The run of the schedule is clean, or it is one of the two.
abbrev clean_or_two : ℕ → List ℕ → Bool
clean_or_two n schedule =
    is_clean (answer_of_run (run_of (case_of (case_a n)) schedule)) || (same schedule schedule_p1 || same schedule schedule_p2)

-- Thread 0 has four lines and thread 1 has one: no length that fits is over 4.
abbrev tried_with : ℕ → Bool
tried_with n = all_lists 5 (suc (case_of (case_a n)).n) (λ lens. cond (lengths_fit (case_of (case_a n)) lens) (clean_or_two n lens) true)

few_lines_lem : (n t : ℕ) → t < (case_of (case_a n)).T → length (lines_of (case_of (case_a n)) t) < 5
unfolding computing case_a
few_lines_lem n zero h = omega arith
few_lines_lem n (suc zero) h = omega arith
few_lines_lem n (suc (suc t)) h = absurd (omega arith)

no_inputs_lem : (n : ℕ) → schedule_size (case_of (case_a n)) ≡ suc (case_of (case_a n)).n
unfolding computing case_a
no_inputs_lem n = omega arith

module _ (n : ℕ) (small : below 256 (case_a n) ≡ true) (accepted : verdict (case_a n) ≡ Ok tt) where
  wf : WellFormed (case_of (case_a n))
  wf = well_formed (case_a n) (below_is 256 (case_a n) small) (accepted_of (case_a n) accepted)

  demand : Demand3 (case_a n)
  demand = demand_3 (case_a n) (below_is 256 (case_a n) small) accepted

  module _ (tried : tried_with n ≡ true) where
    answered_clean : (schedule : List ℕ) (room : ℕ) → NotRefused (replayed (case_a n) schedule room)
        → (replayed (case_a n) schedule room ≡ Ok Clean) ⊎ OneOfTheTwo schedule
    answered_clean schedule room answered =
        let fits = fits_of_answered (case_a n) schedule room answered in
        let said = each_that_fits (case_of (case_a n)) wf 5 (clean_or_two n) (few_lines_lem n) tried schedule (fits.has_size ∙ no_inputs_lem n) fits.fit in
        go (replayed_fits (case_a n) schedule room fits) (either_is _ _ said)
      where
        go : replayed (case_a n) schedule room ≡ answer_of_run (run_of (case_of (case_a n)) schedule)
            → (is_clean (answer_of_run (run_of (case_of (case_a n)) schedule)) ≡ true)
            ⊎ ((same schedule schedule_p1 || same schedule schedule_p2) ≡ true)
            → (replayed (case_a n) schedule room ≡ Ok Clean) ⊎ OneOfTheTwo schedule
        go reply (inl clean) = inl (reply ∙ clean_is _ clean)
        go reply (inr two) = inr (which (either_is _ _ two))
          where
            which : (same schedule schedule_p1 ≡ true) ⊎ (same schedule schedule_p2 ≡ true) → OneOfTheTwo schedule
            which (inl e) = inl (same_is schedule _ e)
            which (inr e) = inr (same_is schedule _ e)

    -- With fewer than two switches no schedule has three lengths.
    every_run_is_clean : (case_of (case_a n)).n < 2 → EveryRunIsClean (case_a n)
    every_run_is_clean few = record { runs = runs; answers = answers }
      where
        answers : (schedule : List ℕ) (room : ℕ) → NotRefused (replayed (case_a n) schedule room) → replayed (case_a n) schedule room ≡ Ok Clean
        answers schedule room answered = go (answered_clean schedule room answered) (fits_of_answered (case_a n) schedule room answered).has_size
          where
            go : (replayed (case_a n) schedule room ≡ Ok Clean) ⊎ OneOfTheTwo schedule → length schedule ≡ schedule_size (case_of (case_a n))
                → replayed (case_a n) schedule room ≡ Ok Clean
            go (inl clean) sized = clean
            go (inr (inl e)) sized = absurd (omega (arith, few, sized, no_inputs_lem n, ap length e))
            go (inr (inr e)) sized = absurd (omega (arith, few, sized, no_inputs_lem n, ap length e))

        runs : (schedule : List ℕ) → InBlocks (case_of (case_a n)) schedule → Legal (case_of (case_a n)) schedule × NoneBroken (case_of (case_a n)) schedule
        runs schedule blocks =
            let room = item_room (case_a n) in
            let answered = (demand.takes_is_no_refusal schedule room (le_refl room)).0 (takes_of_in_blocks (case_a n) accepted wf schedule blocks) in
            let clean = (demand.clean_is_nothing_broken schedule room (le_refl room)).0 (answers schedule room answered) in
            (clean.1, clean.2)

-- ---- The two that violate

tried_2 : tried_with 2 ≡ true
unfolding computing all_lists case_a
tried_2 = refl

two_answered : (schedule : List ℕ) (room : ℕ) → 1 ≤ room → OneOfTheTwo schedule → replayed (case_a 2) schedule room ≡ Ok (Violated 4)
unfolding computing case_a
two_answered schedule room h (inl e) = rw e (replayed_fits (case_a 2) schedule_p1 room (record { accepted = refl; has_room = h; has_size = refl; fit = refl }))
two_answered schedule room h (inr e) = rw e (replayed_fits (case_a 2) schedule_p2 room (record { accepted = refl; has_room = h; has_size = refl; fit = refl }))

two_small : (schedule : List ℕ) → OneOfTheTwo schedule → AllBelow word_size schedule
two_small schedule (inl e) = rw e (below_is word_size schedule_p1 refl)
two_small schedule (inr e) = rw e (below_is word_size schedule_p2 refl)

two_of_violated : (schedule : List ℕ) (room k : ℕ) → replayed (case_a 2) schedule room ≡ Ok (Violated k) → (1 ≤ room) × (k ≡ 4) × OneOfTheTwo schedule
unfolding computing case_a
two_of_violated schedule room k reply = go (answered_clean 2 refl refl tried_2 schedule room answered)
  where
    answered : NotRefused (replayed (case_a 2) schedule room)
    answered = subst NotRefused (sym reply) tt

    has_room : 1 ≤ room
    has_room = (fits_of_answered (case_a 2) schedule room answered).has_room

    go : (replayed (case_a 2) schedule room ≡ Ok Clean) ⊎ OneOfTheTwo schedule → (1 ≤ room) × (k ≡ 4) × OneOfTheTwo schedule
    go (inl clean) = let q : Ok Clean ≡ Ok (Violated k) = sym clean ∙ reply in absurd (let z : ◌≡◌ {A = ℕ} 0 1 = cc in omega arith)
    go (inr two) =
        let q : Ok (Violated 4) ≡ Ok (Violated k) = sym (two_answered schedule room has_room two) ∙ reply in
        (has_room, (let z : k ≡ 4 = cc in z), two)

violating_is_two : (schedule : List ℕ) → ViolatingRun (case_a 2) schedule ↔ OneOfTheTwo schedule
unfolding computing case_a
violating_is_two schedule =
    let violating = (demand 2 refl refl).violated_is_violating_run schedule in (
      λ run. let answered = violating.1 run in (two_of_violated schedule 1 answered.1.0 (answered.1.1 1 (omega arith))).2,
      λ two. violating.0 (two_small schedule two, (4, λ room h. two_answered schedule room h two)),
    )

two_keep : (schedule : List ℕ) → OneOfTheTwo schedule → KeepsRule (case_of (case_a 2)) schedule
unfolding computing case_a
two_keep schedule (inl e) = rw e keep
  where
    keep : KeepsRule (case_of (case_a 2)) schedule_p1
    keep zero few = (refl, (refl, (refl, tt)))
    keep (suc zero) few = tt
    keep (suc (suc t)) few = absurd (omega arith)
two_keep schedule (inr e) = rw e keep
  where
    keep : KeepsRule (case_of (case_a 2)) schedule_p2
    keep zero few = (refl, (refl, (refl, tt)))
    keep (suc zero) few = tt
    keep (suc (suc t)) few = absurd (omega arith)

pub case_a_lem : CaseA
unfolding computing all_lists case_a listing_a text_a
case_a_lem = record {
  accepted = refl;
  counts = refl;
  listing = refl;
  text = refl;
  p1 = refl;
  p2 = refl;
  p3 = refl;
  p4 = refl;
  p5 = refl;
  p6 = refl;
  p6_decodes = refl;
  p7 = refl;
  p7_decodes = refl;
  two_violating_runs = violating_is_two;
  two_violated = λ schedule room k. (two_of_violated schedule room k, λ is. rw is.1 (two_answered schedule room is.0 is.2));
  two_keep_the_rule = two_keep;
  p4_breaks_the_rule = λ keeps. true≢false (keeps 0 (omega arith)).1.1.0;
  p8 = every_run_is_clean 0 refl refl refl (omega arith);
  p8_most_steps = refl;
  p9 = every_run_is_clean 1 refl refl refl (omega arith);
  p9_most_steps = refl;
  p10 = one_constraint_met_by_nothing;
}
