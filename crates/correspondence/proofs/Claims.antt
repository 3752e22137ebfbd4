-- Demand 3 over well-formed cases: assignments that meet the constraints and schedules whose runs finish and
-- violate, each the other's. `decode_of_fill` and `fill_of_decode` are the two laws of the filled assignment.
-- Assumes nothing. Met again in Demand3.
use mathlib.Core.Path.{◌≡◌, sym, ap₂, ◌∙◌}
use Prim.Native.Nat.{ℕ, suc, ◌+◌, ◌<◌}
use mathlib.Core.Bool.{Bool}
use mathlib.Core.List.{List, ◌++◌}
use native.Mathlib.Omega.{arith}
use native.Mathlib.Nat.{zero-add}
use lib.ListN.{length, replicate, length-append, length-drop, length-replicate, take-append-drop}
use lib.Seq.{take_at, drop_at, length-take-le}
use Rattle.model.specs.CaseFile.{Line, Case, sum_of_threads, has_number}
use Rattle.laws.specs.RecordNumber.{RecordNumber}
use Rattle.model.specs.Machine.{start}
use Rattle.model.specs.Assignment.{Assignment, variables, assignment_of}
use Rattle.model.specs.Schedule.{all_input_lines, block_lengths, input_values, given_in, schedule_size, counted_lengths, all_decoded_values, decode}
use Rattle.correspondence.specs.Meaning.{WellFormed, Meets, DecodesTo, break_count}
use Rattle.correspondence.specs.Trace.{Event, events, snapshots}
use Rattle.correspondence.specs.Agreement.{broken_in, sum_of_events, Finishes, Agrees, AgreesItems}
use Rattle.model.specs.Fill.{fill}
use Rattle.correspondence.proofs.Runs.{sound, complete, counted, same_records, same_blocks}
use Rattle.correspondence.proofs.Numbers.{numbers_of_own, numbers_same}
use Rattle.correspondence.proofs.Filling.{length_of_filled, filled_agrees_from, filled_agrees_items_from}
use Rattle.laws.proofs.Schedules.{length_of_decoded}
use Rattle.correspondence.proofs.Inputs.{counted_lengths_lem, only_counted, length_of_counted, inputs_of_decoded, decoded_of_inputs}

-- The events of a schedule's run and the items where its blocks end, and whether it finishes.
abbrev pub events_of : Case → List ℕ → List Event
events_of case schedule = events case (given_in case schedule) 0 (block_lengths case schedule) (start case)

abbrev pub snapshots_of : Case → List ℕ → List (List ℕ)
snapshots_of case schedule = snapshots case (given_in case schedule) 0 (block_lengths case schedule) (start case)

abbrev pub FinishesRun : Case → List ℕ → Type 0
FinishesRun case schedule = Finishes case (given_in case schedule) 0 (block_lengths case schedule) (start case)

module _ (case : Case) (wf : WellFormed case) where
  -- ---- An assignment's schedule.
  pub size_of_decode : (α : Assignment) → length (decode case α) ≡ schedule_size case
  unfolding decode
  size_of_decode α =
      length-append (counted_lengths case α) (all_decoded_values case α case.threads)
      ∙ ap₂ (λ (x y : ℕ). x + y) (length_of_counted case α) (length_of_decoded case α case.threads)

  lengths_of_decode : (α : Assignment) → block_lengths case (decode case α) ≡ counted_lengths case α
  unfolding decode
  lengths_of_decode α = take_at (counted_lengths case α) (all_decoded_values case α case.threads) (suc case.n) (length_of_counted case α)

  pub values_of_decode : (α : Assignment) → input_values case (decode case α) ≡ all_decoded_values case α case.threads
  unfolding decode
  values_of_decode α = drop_at (counted_lengths case α) (all_decoded_values case α case.threads) (suc case.n) (length_of_counted case α)

  pub decodes_to_own : (α : Assignment) → DecodesTo case α (block_lengths case (decode case α)) (given_in case (decode case α))
  decodes_to_own α = rw (lengths_of_decode α, values_of_decode α) (record {
    all_blocks = length_of_counted case α;
    lengths = counted_lengths_lem case α;
    inputs = λ t ht. inputs_of_decoded case wf α t;
  })

  -- An assignment that meets constraints 1 to 6 decodes to a run that finishes and has its numbers.
  pub run_of_meets : (α : Assignment) → Meets case α
      → FinishesRun case (decode case α) × Agrees α (events_of case (decode case α)) × AgreesItems case α 0 (snapshots_of case (decode case α))
      × ((asked : Line → Bool) → break_count case α asked ≡ broken_in asked (events_of case (decode case α)))
  run_of_meets α m = sound case wf α (block_lengths case (decode case α)) (given_in case (decode case α)) m (decodes_to_own α)

  -- ---- A schedule's assignment.
  module _ (schedule : List ℕ) (sized : length schedule ≡ schedule_size case) where
    abbrev filled : Assignment
    filled = assignment_of case (fill case schedule)

    all_blocks : length (block_lengths case schedule) ≡ suc case.n
    all_blocks = length-take-le (suc case.n) schedule (omega (arith, sized))

    all_values_lem : length (input_values case schedule) ≡ length (all_input_lines case.threads)
    all_values_lem = omega (arith, length-drop (suc case.n) schedule, sized)

    last : 0 + length (block_lengths case schedule) ≡ suc case.n
    last = zero-add (length (block_lengths case schedule)) ∙ all_blocks

    all_zeros : length (replicate {A = ℕ} (variables case) 0) ≡ variables case
    all_zeros = length-replicate (variables case) 0

    pub filled_length : length (fill case schedule) ≡ variables case
    unfolding fill
    filled_length = length_of_filled case (given_in case schedule) 0 (block_lengths case schedule) (start case) (replicate (variables case) 0) last ∙ all_zeros

    filled_agrees : Agrees filled (events_of case schedule) × AgreesItems case filled 0 (snapshots_of case schedule)
    unfolding fill
    filled_agrees =
        let lens = block_lengths case schedule in
        let given = given_in case schedule in
        let all : (k : ℕ) → sum_of_events (has_number k) (events_of case schedule) ≡ sum_of_threads (has_number k) case.threads = λ k. counted case wf (has_number k) lens given in
        let within : (k : ℕ) → 0 < sum_of_events (has_number k) (events_of case schedule) → RecordNumber case.R k = λ k some. wf.within k (rw (all k) at some) in (
          filled_agrees_from case given 0 lens (start case) (replicate (variables case) 0) last within (λ k. omega (arith, wf.once k, all k)) (omega (arith, all_zeros)),
          filled_agrees_items_from case given 0 lens (start case) (replicate (variables case) 0) last within wf.item_count_lem (omega (arith, all_zeros)),
        )

    -- The filled assignment of a run that finishes meets constraints 1 to 6,
    pub meets_of_run : FinishesRun case schedule
        → Meets case filled × DecodesTo case filled (block_lengths case schedule) (given_in case schedule)
        × ((asked : Line → Bool) → break_count case filled asked ≡ broken_in asked (events_of case schedule))
    meets_of_run legal = complete case wf filled (block_lengths case schedule) (given_in case schedule) all_blocks legal filled_agrees.0 filled_agrees.1

    -- and decodes to the schedule.
    pub decode_of_fill : FinishesRun case schedule → decode case filled ≡ schedule
    unfolding decode
    decode_of_fill legal =
        let d = (meets_of_run legal).1 in
        ap₂ (λ (xs ys : List ℕ). xs ++ ys) (sym (only_counted case filled (block_lengths case schedule) all_blocks d.lengths))
        (sym (decoded_of_inputs case wf filled (input_values case schedule) d.inputs all_values_lem))
        ∙ take-append-drop (suc case.n) schedule

  -- Filling a decoded assignment restores it.
  pub fill_of_decode : (xs : List ℕ) → length xs ≡ variables case → Meets case (assignment_of case xs) → fill case (decode case (assignment_of case xs)) ≡ xs
  fill_of_decode xs sized m =
      let α = assignment_of case xs in
      let schedule = decode case α in
      let lens = block_lengths case schedule in
      let given = given_in case schedule in
      let run = run_of_meets α m in
      let own = size_of_decode α in
      let agrees = filled_agrees schedule own in
      sym (numbers_of_own case (fill case schedule) (filled_length schedule own))
      ∙ numbers_same case (filled schedule own) α
      (λ k h h'. same_records case wf (filled schedule own) α lens given agrees.0 run.1 k (wf.known k h h'))
      (same_blocks case wf (filled schedule own) α lens given (all_blocks schedule own) agrees.1 run.2)
      ∙ numbers_of_own case xs sized
