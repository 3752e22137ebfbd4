-- Demand 3, one statement over all accepted cases, assignments and schedules: what the encoder writes, the checker's yes, the
-- decoder's schedule, the replayer's answer and the filler's assignment, by the definitions that the contracts of these calls promise
-- to equal.
-- It is proved in proofs/Demand3.antt.
-- Assumes nothing.
use Rattle.std.specs.Prelude.{◌≡◌, ◌↔◌, ℕ, ◌≤◌, ◌<◌, true, List, length, take, Result, Ok, Err}
use Rattle.model.specs.Word.{word_size, AllBelow}
use Rattle.model.specs.Lists.{written_over}
use Rattle.model.specs.CaseFile.{case_of, lines_of, item_count}
use Rattle.model.specs.Accept.{verdict}
use Rattle.model.specs.Assignment.{variables, assignment_of}
use Rattle.model.specs.Table.{Row, table, without_eights, numbers_of}
use Rattle.model.specs.Schedule.{schedule_size, block_lengths, input_values, steps_of, lengths_fit, decode}
use Rattle.model.specs.Runs.{Step, run_steps, lines_run, KeepsRule, FirstLate, Legal, Violates, InBlocks, Takes, FirstBroken, BrokenAt, NoneBroken, FirstEnding, Meets14, last_items}
use Rattle.model.specs.Answers.{encoded, encoded_into, checked, decoded, decoded_into, replayed, replayed_into, filled, filled_into}
use Rattle.model.specs.declared.Checked.TheVariants.{Meets, Fails}
use Rattle.model.specs.declared.Replayed.{Replayed}
use Rattle.model.specs.declared.Replayed.TheVariants as replayeds
use Rattle.laws.specs.AllHold.{AllHold}
use Rattle.correspondence.specs.ReadBack.{rows_of, FirstFails}
use Rattle.correspondence.specs.KindByKind.{StepsAsSaid}
use Rattle.correspondence.specs.Numbered.{RefusalsNumbered}
use Rattle.model.specs.Fill.{fill}
use Rattle.model.specs.declared.Refusal.{Refusal}
use Rattle.model.specs.declared.Refusal.TheVariants as refusals

-- How many numbers the slices lent to the encoder, the decoder, the replayer and the filler must hold.
abbrev pub table_room : List ℕ → ℕ
table_room bytes = length (numbers_of (table (case_of bytes)))

abbrev pub schedule_room : List ℕ → ℕ
schedule_room bytes = schedule_size (case_of bytes)

abbrev pub item_room : List ℕ → ℕ
item_room bytes = item_count (case_of bytes)

abbrev pub assignment_room : List ℕ → ℕ
assignment_room bytes = variables (case_of bytes)

-- The table that the encoder writes, read back from the slice, six numbers a row.
abbrev pub written_rows : List ℕ → List ℕ → List Row
written_rows bytes slice = rows_of (take (table_room bytes) (encoded_into bytes slice))

-- "An assignment is 2R + n × (G + M) numbers from 0 to 65,535": the checker says yes to this one.
abbrev pub Yes : List ℕ → List ℕ → Type 0
Yes bytes xs = AllBelow word_size xs × (checked bytes xs ≡ Ok Meets)

-- "It decodes to the schedule that the counting above gives, which is what the decoder writes": with room, it writes this one.
abbrev pub DecodedAs : List ℕ → List ℕ → List ℕ → Type 0
DecodedAs bytes xs schedule =
    (slice : List ℕ) → schedule_room bytes ≤ length slice
    → (decoded bytes xs (length slice) ≡ Ok (length schedule)) × (decoded_into bytes xs slice ≡ written_over schedule slice)

-- The schedule that the counting gives.
abbrev pub counted : List ℕ → List ℕ → List ℕ
counted bytes xs = decode (case_of bytes) (assignment_of (case_of bytes) xs)

-- Six, "Fill the assignment for a violating schedule": with room, the filler writes this one.
abbrev pub FilledAs : List ℕ → List ℕ → List ℕ → Type 0
FilledAs bytes schedule xs =
    (slice : List ℕ) → assignment_room bytes ≤ length slice
    → (filled bytes schedule (length slice) ≡ Ok (length xs)) × (filled_into bytes schedule slice ≡ written_over xs slice)

-- The reply is no refusal.
abbrev pub NotRefused : Result Replayed Refusal → Type 0
NotRefused (Ok reply) = Unit
NotRefused (Err e) = ⊥

-- The reply is neither a refusal nor a violation: "a schedule whose run does not violate".
abbrev pub NoViolation : Result Replayed Refusal → Type 0
NoViolation (Ok (replayeds.Violated k)) = ⊥
NoViolation (Ok replayeds.Clean) = Unit
NoViolation (Ok (replayeds.CutOff k)) = Unit
NoViolation (Err e) = ⊥

-- With room for the items the replayer leaves these final values.
abbrev pub Leaves : List ℕ → List ℕ → List ℕ → Type 0
Leaves bytes schedule items = (slice : List ℕ) → item_room bytes ≤ length slice → replayed_into bytes schedule slice ≡ written_over items slice

-- Four: "whoever reads .. that a schedule replays to a broken one, now reads that it violates": with room, the reply is violated, at one
-- record whatever the room.
abbrev pub AnsweredViolated : List ℕ → List ℕ → Type 0
AnsweredViolated bytes schedule =
    AllBelow word_size schedule × ((k : ℕ) × ((room : ℕ) → item_room bytes ≤ room → replayed bytes schedule room ≡ Ok (replayeds.Violated k)))

-- "A run in blocks 0 to n is the run of some such schedule.": that of this one, and it violates.
abbrev pub ViolatingRun : List ℕ → List ℕ → Type 0
ViolatingRun bytes schedule = InBlocks (case_of bytes) schedule × Violates (case_of bytes) schedule

-- An assignment that meets the table that the encoder writes, but perhaps not its 8s.
abbrev pub MeetsWithoutEights : List ℕ → List ℕ → List ℕ → Type 0
MeetsWithoutEights bytes slice xs =
    AllBelow word_size xs × (length xs ≡ variables (case_of bytes))
    × AllHold (case_of bytes) (assignment_of (case_of bytes) xs) (without_eights (written_rows bytes slice))

pub record Demand3 (bytes : List ℕ) : Type 0 where
  -- ---- The encoder's table and the checker.
  -- The checker says yes exactly where the assignment has its length and every row holds of the table that the encoder writes;
  pub yes_is_all_rows : (slice : List ℕ) → table_room bytes ≤ length slice → (xs : List ℕ) →
      (checked bytes xs ≡ Ok Meets)
      ↔ ((length xs ≡ variables (case_of bytes)) × AllHold (case_of bytes) (assignment_of (case_of bytes) xs) (written_rows bytes slice))
  -- and it names row j exactly where the assignment has its length and row j of that table, from 1, is the first that fails.
  pub no_names_the_first_row : (slice : List ℕ) → table_room bytes ≤ length slice → (xs : List ℕ) (j : ℕ) →
      (checked bytes xs ≡ Ok (Fails j))
      ↔ ((length xs ≡ variables (case_of bytes)) × FirstFails (case_of bytes) (assignment_of (case_of bytes) xs) 1 (written_rows bytes slice) j)
  -- ---- Assignments and runs.
  -- Some assignment gets yes exactly where some run in blocks 0 to n violates,
  pub some_yes_is_some_violating_run : ((xs : List ℕ) × Yes bytes xs) ↔ ((schedule : List ℕ) × ViolatingRun bytes schedule)
  -- that is, where some schedule is answered with violated: the run of a schedule violates exactly where the answer is that.
  pub some_yes_is_some_violated : ((xs : List ℕ) × Yes bytes xs) ↔ ((schedule : List ℕ) × AnsweredViolated bytes schedule)
  pub violated_is_violating_run : (schedule : List ℕ) → AnsweredViolated bytes schedule ↔ ViolatingRun bytes schedule
  -- Every assignment with yes decodes to the schedule that the counting gives, which is answered with violated and keeps the rule;
  pub decodes_to_violated : (xs : List ℕ) → Yes bytes xs
      → DecodedAs bytes xs (counted bytes xs) × AnsweredViolated bytes (counted bytes xs) × KeepsRule (case_of bytes) (counted bytes xs)
  -- two with the same schedule are one;
  pub one_to_one : (xs zs schedule : List ℕ) → Yes bytes xs → Yes bytes zs → DecodedAs bytes xs schedule → DecodedAs bytes zs schedule → xs ≡ zs
  -- and every schedule that is answered with violated and keeps the rule is the decoding of one, the filled one.
  pub onto : (schedule : List ℕ) → AnsweredViolated bytes schedule → KeepsRule (case_of bytes) schedule
      → Yes bytes (fill (case_of bytes) schedule) × DecodedAs bytes (fill (case_of bytes) schedule) schedule
  -- ---- Six: "Decoding the filled assignment restores the schedule, and filling a decoded one restores the assignment."
  -- So filling and decoding are inverse to each other, between the assignments with yes and the schedules that are answered with violated
  -- and keep the rule:
  pub fill_and_decode_are_inverse : (xs schedule : List ℕ) →
      (Yes bytes xs × DecodedAs bytes xs schedule)
      ↔ (AnsweredViolated bytes schedule × KeepsRule (case_of bytes) schedule × FilledAs bytes schedule xs)
  -- what is written for a schedule that is not refused gets yes and decodes to the schedule,
  pub filled_decodes_back : (schedule : List ℕ) → AllBelow word_size schedule → (slice : List ℕ) (numbers : ℕ)
      → filled bytes schedule (length slice) ≡ Ok numbers
      → (xs : List ℕ) × Yes bytes xs × DecodedAs bytes xs schedule × (filled_into bytes schedule slice ≡ written_over xs slice)
  -- and an assignment with yes is what is written for its schedule.
  pub decoded_fills_back : (xs : List ℕ) → Yes bytes xs → FilledAs bytes (counted bytes xs) xs
  -- What the replayer refuses with 12 to 14 is refused alike; with 16 what it answers otherwise than with violated;
  pub refused_like_replay : (schedule : List ℕ) (room items : ℕ) → assignment_room bytes ≤ room → item_room bytes ≤ items → (e : Refusal)
      → replayed bytes schedule items ≡ Err e → filled bytes schedule room ≡ Err e
  pub refused_16_is_no_violation : (schedule : List ℕ) (room items : ℕ) → assignment_room bytes ≤ room → item_room bytes ≤ items →
      (filled bytes schedule room ≡ Err refusals.NoViolation) ↔ NoViolation (replayed bytes schedule items)
  -- with 17 what violates and breaks the rule, and the record is that of the first late line by thread and chain.
  pub refused_17_breaks_the_rule : (schedule : List ℕ) (room : ℕ) → assignment_room bytes ≤ room →
      ((k : ℕ) × (filled bytes schedule room ≡ Err (refusals.Late k)))
      ↔ (Takes (case_of bytes) schedule × Violates (case_of bytes) schedule × (KeepsRule (case_of bytes) schedule → ⊥))
  pub refused_17_names_the_first : (schedule : List ℕ) (room : ℕ) → assignment_room bytes ≤ room → (k : ℕ) →
      (filled bytes schedule room ≡ Err (refusals.Late k))
      ↔ (Takes (case_of bytes) schedule × Violates (case_of bytes) schedule × FirstLate (case_of bytes) schedule k)
  -- ---- Five: "the solver's yes or no is unchanged by the new constraint".
  -- Some assignment gets yes exactly where some assignment meets the table that the encoder writes without its 8s,
  pub same_without_8s : (slice : List ℕ) → table_room bytes ≤ length slice
      → ((xs : List ℕ) × Yes bytes xs) ↔ ((xs : List ℕ) × MeetsWithoutEights bytes slice xs)
  -- for every violating run has one that keeps the rule, with the same input values, in which the same lines violate.
  pub some_run_keeps_the_rule : (schedule : List ℕ) → ViolatingRun bytes schedule
      → (kept : List ℕ) × ViolatingRun bytes kept × KeepsRule (case_of bytes) kept × (input_values (case_of bytes) kept ≡ input_values (case_of bytes) schedule)
      × ((k : ℕ) → BrokenAt (case_of bytes) kept k ↔ BrokenAt (case_of bytes) schedule k)
  -- ---- "replies and final values are those of the machine under Runs".
  -- With room for the items, the replayer takes a schedule exactly where it gives no refusal.
  pub takes_is_no_refusal : (schedule : List ℕ) (room : ℕ) → item_room bytes ≤ room →
      Takes (case_of bytes) schedule ↔ NotRefused (replayed bytes schedule room)
  -- Violated: taken, and the run violates; the record is that of its first line that does in running order, a zero assert or an unlock by
  -- a stranger.
  pub violated_names_the_first : (schedule : List ℕ) (room : ℕ) → item_room bytes ≤ room → (k : ℕ) →
      (replayed bytes schedule room ≡ Ok (replayeds.Violated k))
      ↔ (Takes (case_of bytes) schedule × Violates (case_of bytes) schedule × FirstBroken (case_of bytes) schedule k)
  -- Clean: taken, legal, and no line violates.
  pub clean_is_nothing_broken : (schedule : List ℕ) (room : ℕ) → item_room bytes ≤ room →
      (replayed bytes schedule room ≡ Ok replayeds.Clean)
      ↔ (Takes (case_of bytes) schedule × Legal (case_of bytes) schedule × NoneBroken (case_of bytes) schedule)
  -- Cut off: taken, and the record is that of the line whose assume or lock failed first.
  pub cut_off_names_the_first : (schedule : List ℕ) (room : ℕ) → item_room bytes ≤ room → (k : ℕ) →
      (replayed bytes schedule room ≡ Ok (replayeds.CutOff k))
      ↔ (Takes (case_of bytes) schedule × ((s : Step) × FirstEnding (case_of bytes) schedule s × (s.line.number ≡ k)))
  -- Refused with 14: neither 12 nor 13 meets the schedule, and the record is that of the first input that strays, which the run
  -- meets before any line ends it; or, where no line ends the run and none strays, that of the first unrun input with a value other
  -- than 0.
  pub refused_14_names_the_first : (schedule : List ℕ) (room : ℕ) → item_room bytes ≤ room → (k : ℕ) →
      (replayed bytes schedule room ≡ Err (refusals.Stray k))
      ↔ ((length schedule ≡ schedule_size (case_of bytes)) × (lengths_fit (case_of bytes) (block_lengths (case_of bytes) schedule) ≡ true)
      × Meets14 (case_of bytes) schedule k)
  -- Every step is one of the thread of its block, and does what the documents say of a line of that thread, kind by kind: what it
  -- changes, whether it ends the run, whether it violates, whether refusal 14 meets it.
  pub steps_as_said_lem : (schedule : List ℕ) → StepsAsSaid (case_of bytes) schedule
  -- A legal run of a schedule that is taken runs of each thread the first lines, in chain order, as many as the thread's block lengths
  -- add up to.
  pub legal_runs_the_first_lines : (schedule : List ℕ) → Takes (case_of bytes) schedule → Legal (case_of bytes) schedule
      → (t : ℕ) → t < (case_of bytes).T
      → lines_run (case_of bytes) t (run_steps (case_of bytes) schedule)
      ≡ take (steps_of (case_of bytes) t 0 (block_lengths (case_of bytes) schedule)) (lines_of (case_of bytes) t)
  -- The final values: "at the end of the run, or at the cut-off with the failed line not run".
  pub values_at_the_end : (schedule : List ℕ) → Takes (case_of bytes) schedule → Legal (case_of bytes) schedule
      → Leaves bytes schedule (last_items (case_of bytes) schedule)
  pub values_at_the_cut_off : (schedule : List ℕ) → Takes (case_of bytes) schedule → (s : Step) → FirstEnding (case_of bytes) schedule s
      → Leaves bytes schedule s.memory.items
  -- ---- A slice that is too short is refused with 10. With room, the table is written; an assignment with yes and its schedule are
  -- not refused, as `decodes_to_violated` says.
  pub short_table : (room : ℕ) → room < table_room bytes → encoded bytes room ≡ Err refusals.Short
  pub long_table : (room : ℕ) → table_room bytes ≤ room → encoded bytes room ≡ Ok (record { constraints = length (table (case_of bytes)); variables = variables (case_of bytes) })
  pub short_schedule : (xs : List ℕ) → Yes bytes xs → (room : ℕ) → room < schedule_room bytes → decoded bytes xs room ≡ Err refusals.Short
  pub short_assignment : (schedule : List ℕ) (room : ℕ) → room < assignment_room bytes → filled bytes schedule room ≡ Err refusals.Short
  pub short_items : (schedule : List ℕ) (room : ℕ) → room < item_room bytes → replayed bytes schedule room ≡ Err refusals.Short
  -- ---- The refusals that are named here have the document's numbers and places.
  pub numbered : RefusalsNumbered

-- Demand 3: for every list of bytes that no refusal from 1 to 9 meets.
abbrev pub ForEveryAcceptedCase : Type 0
ForEveryAcceptedCase = (bytes : List ℕ) → AllBelow 256 bytes → verdict bytes ≡ Ok tt → Demand3 bytes
