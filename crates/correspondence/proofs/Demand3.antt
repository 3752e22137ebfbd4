-- Demand 3 holds: the statement is specs/Demand3.antt, the argument docs/PROOF.md. What is left here is to bring the calls'
-- answers (Replies) and the claims over well-formed cases (Claims) together.
-- Assumes nothing. This is where the other modules lead.
use Rattle.std.specs.Prelude.{Result, Ok, Err}
use mathlib.Core.Path.{◌≡◌, refl, sym, ap, ◌∙◌, subst}
use Prim.Native.Nat.{ℕ, suc, ◌≤◌, ◌<◌}
use mathlib.Core.Bool.{Bool}
use mathlib.Core.List.{List, ◌++◌, append-nil}
use native.Mathlib.Omega.{arith}
use native.Mathlib.Nat.{le_refl}
use lib.Dec.{eqb}
use lib.ListN.{length, take, drop, replicate, length-replicate}
use lib.Seq.{take-append_seam, drop-length, length-take-le}
use Rattle.model.specs.Word.{word_size, AllBelow}
use Rattle.model.specs.Lists.{written_over}
use Rattle.model.specs.CaseFile.{Line, Case, case_of, lines_of}
use Rattle.model.specs.Accept.{verdict}
use Rattle.model.specs.Machine.{start}
use Rattle.model.specs.Assignment.{Assignment, variables, assignment_of}
use Rattle.model.specs.Table.{table, numbers_of}
use Rattle.model.specs.Schedule.{schedule_size, block_lengths, input_values, given_in, decode}
use Rattle.model.specs.Runs.{course_of, KeepsRule, FirstLate, ends, BrokenAt, Violates, InBlocks, Takes}
use Rattle.model.specs.Answers.{checked, late_record, filled, filled_into}
use Rattle.model.specs.declared.Checked.TheVariants.{Meets}
use Rattle.model.specs.declared.Replayed.{Replayed}
use Rattle.laws.proofs.Accepted.{accepted_of}
use Rattle.laws.proofs.Below.{all_below_drop}
use Rattle.laws.proofs.Views.{LtView, below, above, lt_view}
use Rattle.correspondence.specs.Meaning.{WellFormed, every_line}
use Rattle.correspondence.specs.Meaning as meaning
use Rattle.model.specs.Fill.{fill}
use Rattle.laws.specs.AllHold.{AllHold}
use Rattle.correspondence.specs.ReadBack.{rows_of}
use Rattle.correspondence.specs.Agreement.{broken_in}
use Rattle.correspondence.specs.Numbered.{RefusalsNumbered}
use Rattle.correspondence.specs.Demand3.{table_room, schedule_room, item_room, assignment_room, written_rows, Yes, DecodedAs, FilledAs, counted, AnsweredViolated, ViolatingRun, MeetsWithoutEights, Demand3, ForEveryAcceptedCase}
use Rattle.correspondence.proofs.KindByKind.{steps_as_said_lem}
use Rattle.correspondence.proofs.WellFormed.{well_formed}
use Rattle.correspondence.proofs.Replies.{PassesCheck, passes_of_meets, meets_of_passes, encoded_with_room, encoded_short, encoded_into_lem, decoded_with_room, decoded_short, decoded_into_lem, replayed_short}
use Rattle.correspondence.proofs.Rows.{meets_of_table, stays_of_table, table_of_meets}
use Rattle.laws.proofs.AllHold.{none_fails, all_hold_none_fails}
use Rattle.laws.proofs.WithoutEights.{all_hold_without}
use Rattle.correspondence.proofs.FirstFailing.{checker_names_the_first, fails_of_first, rows_of_numbers}
use Rattle.correspondence.proofs.Bounds.{filled_below, decoded_below, values_below}
use Rattle.correspondence.proofs.Claims.{events_of, FinishesRun, size_of_decode, values_of_decode, run_of_meets, meets_of_run, filled_length, decode_of_fill, fill_of_decode}
use Rattle.correspondence.proofs.Courses.{up_to_none}
use Rattle.correspondence.proofs.Endings.{no_stray_of_left, few_steps_lem, lengths_fit_lem, legal_of_finished, left_of_finished, few_steps_of_finished, broken_of_steps, first_of_some, some_of_first}
use Rattle.correspondence.proofs.RunEnds.{finished_run, first_lines_of_legal}
use Rattle.correspondence.proofs.Keeping.{keeps_of_stays, stays_of_keeps}
use Rattle.correspondence.proofs.Late.{breaks_of_late, none_of_keeps, keeps_of_none, first_of_late, late_of_first, late_of_breaks}
use Rattle.correspondence.proofs.FillReplies.{OfViolation, alike, violating_in, filled_short, filled_like_replayed, refused_16, no_violation_of_16, filled_of_violated, violated_of_filled, filled_of_none, refused_17, none_of_filled, late_of_17}
use Rattle.correspondence.proofs.Moved.{moved_assignment, moved_stays, moved_meets, moved_breaks, moved_values}
use Rattle.correspondence.proofs.RunReplies.{takes_of_answered, answered_of_takes, run_of_violated, violated_of_run, run_of_clean, clean_of_run, run_of_cut_off, cut_off_of_run, run_of_14, refused_14_of_run, values_of_cut_off, values_of_legal, takes_of_in_blocks}
use Rattle.model.specs.declared.Refusal.{Refusal}
use Rattle.model.specs.declared.Refusal.TheVariants as refusals

-- A result as long as the slice takes its place.
written_whole : (result slice : List ℕ) → length result ≡ length slice → written_over result slice ≡ result
unfolding written_over
written_whole result slice h = ap (λ (k : ℕ). result ++ drop k slice) h ∙ ap (λ (xs : List ℕ). result ++ xs) (drop-length slice) ∙ append-nil result

-- Record k alone is asked about.
abbrev is_record : ℕ → Line → Bool
is_record k l = eqb l.number k

-- ---- The numbers and places.

pub refusals_numbered : RefusalsNumbered
refusals_numbered = record {
  size = (refl, refl);
  threads = (refl, refl);
  switches = (refl, refl);
  counts = (refl, refl);
  absent = (refl, refl);
  links = (refl, refl);
  unreached = (refl, refl);
  lines = (refl, refl);
  fields = λ k. (refl, refl);
  short = (refl, refl);
  assignment = (refl, refl);
  schedule = (refl, refl);
  lengths = (refl, refl);
  stray = λ k. (refl, refl);
  fails = λ k. (refl, refl);
  no_violation = (refl, refl);
  late = λ k. (refl, refl);
}

-- A schedule whose run finishes and violates, as the trace has it.
record Breaking (case : Case) (schedule : List ℕ) : Type 0 where
  numbers : AllBelow word_size schedule
  has_size : length schedule ≡ schedule_size case
  finished : FinishesRun case schedule
  some_broken : 0 < broken_in every_line (events_of case schedule)

module _ (bytes : List ℕ) (small : AllBelow 256 bytes) (accepted : verdict bytes ≡ Ok tt) where
  abbrev case : Case
  case = case_of bytes

  wf : WellFormed case
  wf = well_formed bytes small (accepted_of bytes accepted)

  abbrev assigned : List ℕ → Assignment
  assigned xs = assignment_of case xs

  -- ---- The encoder's table and the checker's yes.
  pub read_back : (slice : List ℕ) → table_room bytes ≤ length slice → written_rows bytes slice ≡ table case
  unfolding written_over
  read_back slice h =
      ap (λ (xs : List ℕ). rows_of (take (table_room bytes) xs)) (encoded_into_lem bytes accepted slice h)
      ∙ ap rows_of (take-append_seam (numbers_of (table case)) (drop (table_room bytes) slice))
      ∙ rows_of_numbers (table case)

  passes_of_rows : (xs : List ℕ) → length xs ≡ variables case → AllHold case (assigned xs) (table case) → PassesCheck bytes xs
  passes_of_rows xs sized rows = record { accepted = accepted; has_size = sized; none_failed = all_hold_none_fails case (assigned xs) 1 (table case) rows }

  rows_of_yes : (xs : List ℕ) → checked bytes xs ≡ Ok Meets → AllHold case (assigned xs) (table case)
  rows_of_yes xs told = none_fails case (assigned xs) 1 (table case) (passes_of_meets bytes xs told).none_failed (omega arith)

  -- ---- From yes to violated.
  few_lines_lem : (t : ℕ) → t < case.T → length (lines_of case t) < word_size
  few_lines_lem t ht = omega (arith, (accepted_of bytes accepted).few_lines_lem t ht)

  breaking_of_meets : (α : Assignment) → ((k : ℕ) → α.value k < word_size) → meaning.Meets case α → 0 < meaning.break_count case α every_line
      → Breaking case (decode case α)
  breaking_of_meets α small meets some =
      let run = run_of_meets case wf α meets in
      record {
        numbers = decoded_below case wf few_lines_lem α small;
        has_size = size_of_decode case wf α;
        finished = run.0;
        some_broken = rw (← (run.3 every_line)) some;
      }

  met : (xs : List ℕ) → checked bytes xs ≡ Ok Meets → meaning.Meets case (assigned xs) × (0 < meaning.break_count case (assigned xs) every_line)
  met xs told = meets_of_table case wf (assigned xs) (all_hold_without case (assigned xs) (table case) (rows_of_yes xs told))

  run_of_yes : (xs : List ℕ) → Yes bytes xs → Breaking case (decode case (assigned xs))
  run_of_yes xs told = breaking_of_meets (assigned xs) (values_below case wf xs told.0) (met xs told.1).0 (met xs told.1).1

  keeps_of_yes : (xs : List ℕ) → Yes bytes xs → KeepsRule case (decode case (assigned xs))
  keeps_of_yes xs told = keeps_of_stays case wf (assigned xs) (met xs told.1).0 (stays_of_table case wf (assigned xs) (rows_of_yes xs told.1))

  violated_of_breaking : (schedule : List ℕ) → Breaking case schedule → AnsweredViolated bytes schedule
  violated_of_breaking schedule run =
      let lens = block_lengths case schedule in
      let given = given_in case schedule in
      let legal = legal_of_finished case given 0 lens (start case) run.finished in
      let same = up_to_none (ends case given) (course_of case schedule) legal.1 in
      let found = first_of_some case given every_line (course_of case schedule) (rw (← (broken_of_steps case given every_line 0 lens (start case))) run.some_broken) in
      let takes : Takes case schedule = record {
        not_12 = run.has_size;
        not_13 = lengths_fit_lem case lens (few_steps_of_finished case given wf 0 lens (start case) wf.thread_count_lem run.finished);
        not_14 = rw same legal.0;
        nor_after = λ _. no_stray_of_left given _ (left_of_finished case given 0 lens (start case) run.finished);
      } in (
        run.numbers,
        (
          found.0.line.number,
          λ room h. violated_of_run bytes accepted wf schedule room h found.0.line.number takes legal.1 (found.0, rw same found.1, refl),
        ),
      )

  breaking_of_violated : (schedule : List ℕ) → AnsweredViolated bytes schedule → Breaking case schedule
  breaking_of_violated schedule answered =
      let lens = block_lengths case schedule in
      let given = given_in case schedule in
      let reply = answered.1.1 (item_room bytes) (le_refl (item_room bytes)) in
      let run = run_of_violated bytes accepted wf schedule (item_room bytes) (le_refl (item_room bytes)) answered.1.0 reply in
      let legal = run.1.legal in
      let first = rw (up_to_none (ends case given) (course_of case schedule) legal) at run.2.1 in
      record {
        numbers = answered.0;
        has_size = run.0.not_12;
        finished = finished_run case wf schedule run.0 legal;
        some_broken = rw (broken_of_steps case given every_line 0 lens (start case)) (some_of_first case given every_line (course_of case schedule) run.2.0 first);
      }

  -- ---- What the decoder writes.
  decoded_as_lem : (xs : List ℕ) → Yes bytes xs → DecodedAs bytes xs (decode case (assigned xs))
  decoded_as_lem xs told slice h =
      let passes = passes_of_meets bytes xs told.1 in (
        decoded_with_room bytes accepted xs passes (length slice) h ∙ ap Ok (sym (size_of_decode case wf (assigned xs))),
        decoded_into_lem bytes accepted xs passes slice h,
      )

  decoding_is : (xs schedule : List ℕ) → Yes bytes xs → DecodedAs bytes xs schedule → decode case (assigned xs) ≡ schedule
  decoding_is xs schedule told written =
      let slice : List ℕ = replicate (schedule_room bytes) 0 in
      let room : length slice ≡ schedule_room bytes = length-replicate {A = ℕ} (schedule_room bytes) 0 in
      let given = written slice (omega (arith, room)) in
      let own = decoded_as_lem xs told slice (omega (arith, room)) in
      let sized : length schedule ≡ length (decode case (assigned xs)) = cc (given.0, own.0) in
      let own_size = size_of_decode case wf (assigned xs) in
      sym (written_whole (decode case (assigned xs)) slice (own_size ∙ sym room))
      ∙ sym own.1 ∙ given.1 ∙ written_whole schedule slice (sized ∙ own_size ∙ sym room)

  filling_is : (xs schedule : List ℕ) → Yes bytes xs → DecodedAs bytes xs schedule → fill case schedule ≡ xs
  filling_is xs schedule told written =
      ap (fill case) (sym (decoding_is xs schedule told written))
      ∙ fill_of_decode case wf xs (passes_of_meets bytes xs told.1).has_size (met xs told.1).0

  -- ---- From violated to yes.
  filled_small : (schedule : List ℕ) → Breaking case schedule → AllBelow word_size (fill case schedule)
  filled_small schedule run =
      filled_below case wf schedule (all_below_drop word_size (suc case.n) schedule run.numbers)
      (length-take-le (suc case.n) schedule (omega (arith, run.has_size)))

  yes_of_run : (schedule : List ℕ) → Breaking case schedule → KeepsRule case schedule → Yes bytes (fill case schedule)
  yes_of_run schedule run keeps =
      let found = meets_of_run case wf schedule run.has_size run.finished in (
        filled_small schedule run,
        meets_of_passes bytes (fill case schedule) (passes_of_rows (fill case schedule) (filled_length case wf schedule run.has_size)
            (table_of_meets case wf (assigned (fill case schedule)) found.0 (stays_of_keeps case wf schedule run.has_size run.finished keeps)
            (rw (found.2 every_line) run.some_broken))),
      )

  fill_decoded_as : (schedule : List ℕ) → Breaking case schedule → KeepsRule case schedule → DecodedAs bytes (fill case schedule) schedule
  fill_decoded_as schedule run keeps =
      subst (DecodedAs bytes (fill case schedule)) (decode_of_fill case wf schedule run.has_size run.finished)
      (decoded_as_lem (fill case schedule) (yes_of_run schedule run keeps))

  -- ---- Six: what the filler writes.
  -- The replayer's answer to a schedule that the filler answers so, and the run that it has.
  run_of_filled : (schedule : List ℕ) (room : ℕ) → assignment_room bytes ≤ room → OfViolation (filled bytes schedule room)
      → Takes case schedule × Violates case schedule
  run_of_filled schedule room h told =
      let all = le_refl (item_room bytes) in
      let reply = violated_of_filled bytes accepted schedule room (item_room bytes) h all told in
      let run = run_of_violated bytes accepted wf schedule (item_room bytes) all reply.0 reply.1 in
      (run.0, run.1)

  filled_of_run : (schedule : List ℕ) (room : ℕ) → assignment_room bytes ≤ room → Takes case schedule → Violates case schedule
      → filled bytes schedule room ≡ violating_in case schedule
  filled_of_run schedule room h takes violates =
      let all = le_refl (item_room bytes) in
      let first = violates.some_broken in
      filled_of_violated bytes accepted schedule room (item_room bytes) h all first.0
      (violated_of_run bytes accepted wf schedule (item_room bytes) all first.0 takes violates.legal first.1)

  late_is : (schedule : List ℕ) (room : ℕ) → assignment_room bytes ≤ room → (k : ℕ) → filled bytes schedule room ≡ Err (refusals.Late k)
      → Takes case schedule × Violates case schedule × FirstLate case schedule k
  late_is schedule room h k told =
      let run = run_of_filled schedule room h (subst OfViolation (sym told) (omega arith)) in
      let late = late_of_17 (late_record case schedule) (variables case) k (sym (filled_of_run schedule room h run.0 run.1) ∙ told) in
      let first = first_of_late case wf schedule run.0.not_12 (finished_run case wf schedule run.0 run.1.legal) late.0 in
      (run.0, run.1, subst (FirstLate case schedule) late.1 first)

  refused_17_of : (schedule : List ℕ) (room : ℕ) → assignment_room bytes ≤ room → (k : ℕ) → Takes case schedule → Violates case schedule
      → FirstLate case schedule k → filled bytes schedule room ≡ Err (refusals.Late k)
  refused_17_of schedule room h k takes violates first =
      let late = late_of_first case wf schedule takes.not_12 (finished_run case wf schedule takes violates.legal) k first in
      filled_of_run schedule room h takes violates ∙ refused_17 (late_record case schedule) (variables case) late.0 ∙ ap (λ (k : ℕ). Err (refusals.Late k)) late.1

  -- A schedule that violates and keeps the rule is filled with its own assignment, and only such a one is filled.
  filled_as_lem : (schedule : List ℕ) → Takes case schedule → Violates case schedule → KeepsRule case schedule → FilledAs bytes schedule (fill case schedule)
  unfolding filled_into
  filled_as_lem schedule takes violates keeps slice h =
      let none = none_of_keeps case wf schedule takes.not_12 (finished_run case wf schedule takes violates.legal) keeps in
      let answer = filled_of_run schedule (length slice) h takes violates ∙ filled_of_none (late_record case schedule) (variables case) none in
      (answer ∙ ap Ok (sym (filled_length case wf schedule takes.not_12)), rw answer)

  keeps_of_filled : (schedule : List ℕ) (room : ℕ) → assignment_room bytes ≤ room → (numbers : ℕ) → filled bytes schedule room ≡ Ok numbers
      → Takes case schedule × Violates case schedule × KeepsRule case schedule
  keeps_of_filled schedule room h numbers told =
      let run = run_of_filled schedule room h (subst OfViolation (sym told) tt) in
      let none = none_of_filled (late_record case schedule) (variables case) numbers (sym (filled_of_run schedule room h run.0 run.1) ∙ told) in
      (run.0, run.1, keeps_of_none case wf schedule run.0.not_12 (finished_run case wf schedule run.0 run.1.legal) none)

  -- A slice that is answered with an assignment has room for it.
  room_of_filled : (schedule : List ℕ) (room numbers : ℕ) → filled bytes schedule room ≡ Ok numbers → assignment_room bytes ≤ room
  room_of_filled schedule room numbers told = go (lt_view room (assignment_room bytes))
    where
      go : LtView room (assignment_room bytes) → assignment_room bytes ≤ room
      go (below less _) =
          let other : Err refusals.Short ≡ Ok numbers = sym (filled_short bytes accepted schedule room less) ∙ told in
          absurd (let z : ◌≡◌ {A = ℕ} 0 1 = cc in omega arith)
      go (above more _) = more

  -- What is filled in is one assignment.
  filling_of : (schedule xs zs : List ℕ) → FilledAs bytes schedule xs → FilledAs bytes schedule zs → length xs ≡ variables case → xs ≡ zs
  filling_of schedule xs zs x_written z_written sized =
      let slice : List ℕ = replicate (assignment_room bytes) 0 in
      let room : length slice ≡ assignment_room bytes = length-replicate {A = ℕ} (assignment_room bytes) 0 in
      let x_given = x_written slice (omega (arith, room)) in
      let z_given = z_written slice (omega (arith, room)) in
      let same : length xs ≡ length zs = cc (x_given.0, z_given.0) in
      sym (written_whole xs slice (sized ∙ sym room)) ∙ sym x_given.1 ∙ z_given.1 ∙ written_whole zs slice (sym same ∙ sized ∙ sym room)

  -- ---- Five: the schedule with invisible lines moved.
  record KeptOf (schedule : List ℕ) : Type 0 where
    kept : List ℕ
    run : Breaking case kept
    keeps : KeepsRule case kept
    same_inputs : input_values case kept ≡ input_values case schedule
    same_lines : (asked : Line → Bool) → broken_in asked (events_of case kept) ≡ broken_in asked (events_of case schedule)

  kept_of : (schedule : List ℕ) → Breaking case schedule → KeptOf schedule
  kept_of schedule run =
      let α = assigned (fill case schedule) in
      let found = meets_of_run case wf schedule run.has_size run.finished in
      let β = moved_assignment case wf α found.0 in
      let meets = moved_meets case wf α found.0 in
      let some : 0 < meaning.break_count case α every_line = rw (found.2 every_line) run.some_broken in
      record {
        kept = decode case β;
        run = breaking_of_meets β (values_below case wf (fill case schedule) (filled_small schedule run)) meets (rw (moved_breaks case wf α found.0 every_line) some);
        keeps = keeps_of_stays case wf β meets (moved_stays case wf α found.0);
        same_inputs = values_of_decode case wf β ∙ moved_values case wf α found.0 ∙ sym (values_of_decode case wf α)
            ∙ ap (input_values case) (decode_of_fill case wf schedule run.has_size run.finished);
        same_lines = λ asked. sym ((run_of_meets case wf β meets).3 asked) ∙ moved_breaks case wf α found.0 asked ∙ found.2 asked;
      }

  -- A line violates in the run just where its event does.
  broken_at_of_events : (schedule : List ℕ) → Breaking case schedule → (k : ℕ) → 0 < broken_in (is_record k) (events_of case schedule) → BrokenAt case schedule k
  broken_at_of_events schedule run k some =
      let lens = block_lengths case schedule in
      let given = given_in case schedule in
      let legal = legal_of_finished case given 0 lens (start case) run.finished in
      rw (up_to_none (ends case given) (course_of case schedule) legal.1)
      (first_of_some case given (is_record k) (course_of case schedule) (rw (← (broken_of_steps case given (is_record k) 0 lens (start case))) some))

  events_of_broken_at : (schedule : List ℕ) → Breaking case schedule → (k : ℕ) → BrokenAt case schedule k → 0 < broken_in (is_record k) (events_of case schedule)
  events_of_broken_at schedule run k at =
      let lens = block_lengths case schedule in
      let given = given_in case schedule in
      let legal = legal_of_finished case given 0 lens (start case) run.finished in
      let first = rw (up_to_none (ends case given) (course_of case schedule) legal.1) at at.1 in
      rw (broken_of_steps case given (is_record k) 0 lens (start case)) (some_of_first case given (is_record k) (course_of case schedule) at.0 first)

  yes_of_breaking : (schedule : List ℕ) → Breaking case schedule → (xs : List ℕ) × Yes bytes xs
  yes_of_breaking schedule run = let moved = kept_of schedule run in (fill case moved.kept, yes_of_run moved.kept moved.run moved.keeps)

  without_of_yes : (slice xs : List ℕ) → table_room bytes ≤ length slice → Yes bytes xs → MeetsWithoutEights bytes slice xs
  without_of_yes slice xs h told =
      (told.0, (passes_of_meets bytes xs told.1).has_size, rw (read_back slice h) (all_hold_without case (assigned xs) (table case) (rows_of_yes xs told.1)))

  breaking_of_without : (slice xs : List ℕ) → table_room bytes ≤ length slice → MeetsWithoutEights bytes slice xs → Breaking case (decode case (assigned xs))
  breaking_of_without slice xs h told =
      let found = meets_of_table case wf (assigned xs) (rw (read_back slice h) at told.2) in
      breaking_of_meets (assigned xs) (values_below case wf xs told.0) found.0 found.1

  -- ---- The machine under "Runs".
  takes_of_violated : (schedule : List ℕ) → AnsweredViolated bytes schedule → Takes case schedule × Violates case schedule
  takes_of_violated schedule answered =
      let reply = answered.1.1 (item_room bytes) (le_refl (item_room bytes)) in
      let run = run_of_violated bytes accepted wf schedule (item_room bytes) (le_refl (item_room bytes)) answered.1.0 reply in
      (run.0, run.1)

  in_blocks_of : (schedule : List ℕ) → AllBelow word_size schedule → Takes case schedule → InBlocks case schedule
  in_blocks_of schedule numbers takes = record {
    numbers = numbers;
    has_size = takes.not_12;
    few_steps_lem = few_steps_lem case (block_lengths case schedule) takes.not_13;
    none_strays_lem = takes.not_14;
    none_left = takes.nor_after;
  }

  run_of_answered : (schedule : List ℕ) → AnsweredViolated bytes schedule → ViolatingRun bytes schedule
  run_of_answered schedule answered =
      let run = takes_of_violated schedule answered in
      (in_blocks_of schedule answered.0 run.0, run.1)

  answered_of_run : (schedule : List ℕ) → ViolatingRun bytes schedule → AnsweredViolated bytes schedule
  answered_of_run schedule run =
      let takes = takes_of_in_blocks bytes accepted wf schedule run.0 in
      let found = run.1.some_broken in
      (run.0.numbers, (found.0, (λ room h. violated_of_run bytes accepted wf schedule room h found.0 takes run.1.legal found.1)))

  violated_of_yes : (xs : List ℕ) → Yes bytes xs → AnsweredViolated bytes (counted bytes xs)
  violated_of_yes xs told = violated_of_breaking _ (run_of_yes xs told)

  yes_of_violated : (schedule : List ℕ) → AnsweredViolated bytes schedule → (xs : List ℕ) × Yes bytes xs
  yes_of_violated schedule answered = yes_of_breaking schedule (breaking_of_violated schedule answered)

  -- Filling a decoded assignment restores it, and decoding a filled one restores the schedule.
  fills_back : (xs : List ℕ) → Yes bytes xs → FilledAs bytes (counted bytes xs) xs
  fills_back xs told =
      let run = takes_of_violated (counted bytes xs) (violated_of_yes xs told) in
      subst (FilledAs bytes (counted bytes xs)) (filling_is xs (counted bytes xs) told (decoded_as_lem xs told))
      (filled_as_lem (counted bytes xs) run.0 run.1 (keeps_of_yes xs told))

  inverse_of_decoded : (xs schedule : List ℕ) → Yes bytes xs → DecodedAs bytes xs schedule
      → AnsweredViolated bytes schedule × KeepsRule case schedule × FilledAs bytes schedule xs
  inverse_of_decoded xs schedule told written =
      subst (λ (x : List ℕ). AnsweredViolated bytes x × KeepsRule case x × FilledAs bytes x xs) (decoding_is xs schedule told written)
      (violated_of_yes xs told, keeps_of_yes xs told, fills_back xs told)

  inverse_of_filled : (xs schedule : List ℕ) → AnsweredViolated bytes schedule → KeepsRule case schedule → FilledAs bytes schedule xs
      → Yes bytes xs × DecodedAs bytes xs schedule
  inverse_of_filled xs schedule answered keeps written =
      let run = breaking_of_violated schedule answered in
      let own = takes_of_violated schedule answered in
      let is_fill = filling_of schedule (fill case schedule) xs (filled_as_lem schedule own.0 own.1 keeps) written (filled_length case wf schedule run.has_size) in
      subst (λ (x : List ℕ). Yes bytes x × DecodedAs bytes x schedule) is_fill (yes_of_run schedule run keeps, fill_decoded_as schedule run keeps)

  corresponds : Demand3 bytes
  corresponds = record {
    yes_is_all_rows = λ slice h xs. (
      (λ told. ((passes_of_meets bytes xs told).has_size, rw (read_back slice h) (rows_of_yes xs told))),
      (λ both. meets_of_passes bytes xs (passes_of_rows xs both.0 (rw (read_back slice h) at both.1))),
    );
    no_names_the_first_row = λ slice h xs j. (
      (λ told. let named = checker_names_the_first bytes xs j told in (named.0, rw (read_back slice h) named.1)),
      (λ both. fails_of_first bytes xs j accepted both.0 (rw (read_back slice h) at both.1)),
    );
    some_yes_is_some_violating_run = (
      (λ some. (counted bytes some.0, run_of_answered _ (violated_of_yes some.0 some.1))),
      (λ some. yes_of_violated some.0 (answered_of_run some.0 some.1)),
    );
    some_yes_is_some_violated = (
      (λ some. (counted bytes some.0, violated_of_yes some.0 some.1)),
      (λ some. yes_of_violated some.0 some.1),
    );
    violated_is_violating_run = λ schedule. (run_of_answered schedule, answered_of_run schedule);
    decodes_to_violated = λ xs told. (decoded_as_lem xs told, violated_of_yes xs told, keeps_of_yes xs told);
    one_to_one = λ xs zs schedule yes_x yes_z x_written z_written. sym (filling_is xs schedule yes_x x_written) ∙ filling_is zs schedule yes_z z_written;
    onto = λ schedule answered keeps.
        let run = breaking_of_violated schedule answered in (yes_of_run schedule run keeps, fill_decoded_as schedule run keeps);
    fill_and_decode_are_inverse = λ xs schedule. (
      (λ both. inverse_of_decoded xs schedule both.0 both.1),
      (λ all. inverse_of_filled xs schedule all.0 all.1 all.2),
    );
    filled_decodes_back = λ schedule numbers_small slice numbers told.
        let room = room_of_filled schedule (length slice) numbers told in
        let own = keeps_of_filled schedule (length slice) room numbers told in
        let run = breaking_of_violated schedule (answered_of_run schedule (in_blocks_of schedule numbers_small own.0, own.1)) in
        (fill case schedule, yes_of_run schedule run own.2, fill_decoded_as schedule run own.2, (filled_as_lem schedule own.0 own.1 own.2 slice room).1);
    decoded_fills_back = fills_back;
    refused_like_replay = λ schedule room items h h' e reply.
        filled_like_replayed bytes accepted schedule room items h h' ∙ ap (λ (r : Result Replayed Refusal). alike r (violating_in case schedule)) reply;
    refused_16_is_no_violation = λ schedule room items h h'. (no_violation_of_16 bytes accepted schedule room items h h', refused_16 bytes accepted schedule room items h h');
    refused_17_breaks_the_rule = λ schedule room h. (
      (λ found.
          let late = late_is schedule room h found.0 found.1 in
          (late.0, late.1, breaks_of_late case schedule found.0 late.2)),
      (λ run.
          let late = late_of_breaks case wf schedule run.0.not_12 (finished_run case wf schedule run.0 run.1.legal) run.2 in
          (late.0, refused_17_of schedule room h late.0 run.0 run.1 late.1)),
    );
    refused_17_names_the_first = λ schedule room h k. (late_is schedule room h k, (λ run. refused_17_of schedule room h k run.0 run.1 run.2));
    same_without_8s = λ slice h. (
      (λ some. (some.0, without_of_yes slice some.0 h some.1)),
      (λ some. yes_of_breaking _ (breaking_of_without slice some.0 h some.1)),
    );
    some_run_keeps_the_rule = λ schedule run.
        let own = breaking_of_violated schedule (answered_of_run schedule run) in
        let moved = kept_of schedule own in (
          moved.kept,
          run_of_answered moved.kept (violated_of_breaking moved.kept moved.run),
          moved.keeps,
          moved.same_inputs,
          λ k. (
            (λ at. broken_at_of_events schedule own k (rw (← (moved.same_lines (is_record k))) (events_of_broken_at moved.kept moved.run k at))),
            (λ at. broken_at_of_events moved.kept moved.run k (rw (moved.same_lines (is_record k)) (events_of_broken_at schedule own k at))),
          ),
        );
    takes_is_no_refusal = λ schedule room h. (answered_of_takes bytes accepted wf schedule room h, takes_of_answered bytes accepted wf schedule room h);
    violated_names_the_first = λ schedule room h k. (
      run_of_violated bytes accepted wf schedule room h k,
      (λ run. violated_of_run bytes accepted wf schedule room h k run.0 run.1.legal run.2),
    );
    clean_is_nothing_broken = λ schedule room h. (
      run_of_clean bytes accepted wf schedule room h,
      (λ run. clean_of_run bytes accepted wf schedule room h run.0 run.1 run.2),
    );
    cut_off_names_the_first = λ schedule room h k. (
      run_of_cut_off bytes accepted wf schedule room h k,
      (λ run. cut_off_of_run bytes accepted wf schedule room h k run.0 run.1.0 run.1.1 run.1.2),
    );
    refused_14_names_the_first = λ schedule room h k. (
      run_of_14 bytes accepted wf schedule room h k,
      (λ run. refused_14_of_run bytes accepted wf schedule room h k run.0 run.1 run.2),
    );
    steps_as_said_lem = steps_as_said_lem bytes (accepted_of bytes accepted) wf;
    legal_runs_the_first_lines = λ schedule takes legal t ht. first_lines_of_legal case wf schedule legal t;
    values_at_the_end = values_of_legal bytes accepted wf;
    values_at_the_cut_off = values_of_cut_off bytes accepted wf;
    short_table = encoded_short bytes accepted;
    long_table = encoded_with_room bytes accepted;
    short_schedule = λ xs told. decoded_short bytes accepted xs (passes_of_meets bytes xs told.1);
    short_assignment = filled_short bytes accepted;
    short_items = replayed_short bytes accepted;
    numbered = refusals_numbered;
  }

pub demand_3 : ForEveryAcceptedCase
demand_3 = corresponds
