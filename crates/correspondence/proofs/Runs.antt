-- Demand 3 over cases, assignments and given values: an assignment that meets constraints 1 to 6 and decodes to block lengths and
-- given values is one that agrees with the trace of a run with these that finishes, and the trace determines it.
-- Assumes nothing. Met again in Claims, for assignments and schedules as lists.
use mathlib.Core.Path.{◌≡◌, refl, ap, ◌∙◌}
use Prim.Native.Nat.{ℕ, suc, ◌+◌, ◌<◌}
use mathlib.Core.Bool.{Bool}
use mathlib.Core.List.{List, []}
use native.Mathlib.Omega.{arith}
use native.Mathlib.Nat.{zero-add}
use lib.ListN.{get_or, length, replicate, get_or-replicate, length-replicate}
use Rattle.model.specs.Limits.{local_count}
use Rattle.model.specs.CaseFile.{Line, Case, item_count, sum_of_threads, has_number}
use Rattle.model.specs.Machine.{start}
use Rattle.model.specs.Assignment.{Assignment}
use Rattle.model.specs.Copies.{latest, value_before, read_local}
use Rattle.correspondence.specs.Meaning.{WellFormed, Meets, DecodesTo, break_count}
use Rattle.correspondence.specs.Trace.{events, snapshots}
use Rattle.correspondence.specs.Agreement.{broken_in, sum_of_events, Finishes, Agrees, AgreesItems}
use Rattle.correspondence.proofs.Blocks.{BlocksNext, blocks_of_order, order_of_blocks}
use Rattle.correspondence.proofs.Values.{Invariant, BlocksRun, blocks_run_lem, decoded_of_run}
use Rattle.correspondence.proofs.Breaks.{run_breaks_alike}
use Rattle.correspondence.proofs.Traces.{run_agrees, run_agrees_items, run_finishes, agreed_run, sum_of_run, length_of_snapshots, agreeing_records_are_same, agreeing_blocks_are_same}

-- At the start no thread has run a line.
abbrev pub none_run : ℕ → List Line
none_run t = []

module _ (case : Case) (wf : WellFormed case) where
  pub invariant_at_start : (α : Assignment) → Invariant case α 0 (start case) none_run
  unfolding value_before read_local latest
  invariant_at_start α = record {
    places = λ t ht. record { whole = refl; before = tt };
    locals = λ t ht. record {
      all_locals = ap length (get_or-replicate case.T t (replicate local_count 0) [] ht);
      read = λ name h. ap (λ (xs : List ℕ). get_or xs name 0) (get_or-replicate case.T t (replicate local_count 0) [] ht)
          ∙ get_or-replicate local_count name 0 0 h;
    };
    items = λ few g hg. refl;
    all_rests = wf.thread_count_lem;
    all_locals = length-replicate case.T (replicate local_count 0);
    all_items = wf.item_count_lem;
  }

  -- The blocks run with the assignment's numbers, from the start.
  abbrev pub RunsAs : Assignment → List ℕ → (ℕ → ℕ) → Type 0
  RunsAs α lens given = BlocksNext case α 0 lens case.threads × BlocksRun case given α 0 lens (start case)

  pub run_of_assignment : (α : Assignment) (lens : List ℕ) (given : ℕ → ℕ) → Meets case α → DecodesTo case α lens given
      → RunsAs α lens given
  run_of_assignment α lens given meets decodes =
      let last : 0 + length lens ≡ suc case.n = zero-add (length lens) ∙ decodes.all_blocks in
      let inv = invariant_at_start α in
      let blocks = blocks_of_order case α wf 0 lens case.threads none_run wf.thread_count_lem last decodes.lengths inv.places
      meets.order in (
        blocks,
        blocks_run_lem case wf given α 0 lens (start case) none_run last inv blocks
            (λ t ht. (meets.lines t ht, decodes.inputs t ht)) (λ i h. meets.blocks i),
      )

  pub assignment_of_run : (α : Assignment) (lens : List ℕ) (given : ℕ → ℕ) → length lens ≡ suc case.n → RunsAs α lens given
      → Meets case α × DecodesTo case α lens given
  assignment_of_run α lens given all_blocks runs =
      let last : 0 + length lens ≡ suc case.n = zero-add (length lens) ∙ all_blocks in
      let inv = invariant_at_start α in
      let order = order_of_blocks case α wf 0 lens case.threads none_run wf.thread_count_lem last runs.0 inv.places in
      let values = decoded_of_run case wf given α 0 lens (start case) none_run last inv runs.0 runs.1 in (
        record { order = order.0; lines = λ t ht. (values.0 t ht).0; blocks = λ i few. values.1 i (omega arith) few },
        record { all_blocks = all_blocks; lengths = order.1; inputs = λ t ht. (values.0 t ht).1 },
      )

  break_count_of_run : (α : Assignment) (lens : List ℕ) (given : ℕ → ℕ) → length lens ≡ suc case.n → RunsAs α lens given
      → (asked : Line → Bool) → break_count case α asked ≡ broken_in asked (events case given 0 lens (start case))
  break_count_of_run α lens given all_blocks runs asked =
      run_breaks_alike case wf given α asked 0 lens (start case) none_run (zero-add (length lens) ∙ all_blocks) (invariant_at_start α) runs.0
      runs.1

  -- An assignment that meets the constraints decodes to a run that finishes and has the assignment's numbers.
  pub sound : (α : Assignment) (lens : List ℕ) (given : ℕ → ℕ) → Meets case α → DecodesTo case α lens given
      → Finishes case given 0 lens (start case)
      × Agrees α (events case given 0 lens (start case))
      × AgreesItems case α 0 (snapshots case given 0 lens (start case))
      × ((asked : Line → Bool) → break_count case α asked ≡ broken_in asked (events case given 0 lens (start case)))
  sound α lens given meets decodes =
      let runs = run_of_assignment α lens given meets decodes in (
        run_finishes case given α 0 lens (start case) runs.1,
        run_agrees case given α 0 lens (start case) runs.0 runs.1,
        run_agrees_items case given α 0 lens (start case) runs.1,
        break_count_of_run α lens given decodes.all_blocks runs,
      )

  -- An assignment that has the numbers of a run that finishes meets the constraints and decodes to it.
  pub complete : (β : Assignment) (lens : List ℕ) (given : ℕ → ℕ) → length lens ≡ suc case.n → Finishes case given 0 lens (start case)
      → Agrees β (events case given 0 lens (start case)) → AgreesItems case β 0 (snapshots case given 0 lens (start case))
      → Meets case β × DecodesTo case β lens given × ((asked : Line → Bool) → break_count case β asked ≡ broken_in asked (events case given 0 lens (start case)))
  complete β lens given all_blocks legal agrees items =
      let runs = agreed_run case given β 0 lens (start case) legal agrees items in
      let both = assignment_of_run β lens given all_blocks runs in
      (both.0, both.1, break_count_of_run β lens given all_blocks runs)

  -- Every line has one event, whatever the schedule.
  pub counted : (weight : Line → ℕ) (lens : List ℕ) (given : ℕ → ℕ)
      → sum_of_events weight (events case given 0 lens (start case)) ≡ sum_of_threads weight case.threads
  counted weight lens given = sum_of_run weight case wf given 0 lens (start case) wf.thread_count_lem

  -- The trace determines the assignment.
  pub same_records : (α β : Assignment) (lens : List ℕ) (given : ℕ → ℕ) → Agrees α (events case given 0 lens (start case))
      → Agrees β (events case given 0 lens (start case)) → (k : ℕ) → 0 < sum_of_threads (has_number k) case.threads
      → (α.block k ≡ β.block k) × (α.value k ≡ β.value k)
  same_records α β lens given a b k known =
      agreeing_records_are_same α β k (events case given 0 lens (start case)) a b (omega (arith, known, counted (has_number k) lens given))

  pub same_blocks : (α β : Assignment) (lens : List ℕ) (given : ℕ → ℕ) → length lens ≡ suc case.n
      → AgreesItems case α 0 (snapshots case given 0 lens (start case)) → AgreesItems case β 0 (snapshots case given 0 lens (start case))
      → (i g : ℕ) → i < case.n → g < item_count case → α.block_value i g ≡ β.block_value i g
  same_blocks α β lens given all_blocks a b i g few hg =
      agreeing_blocks_are_same α β case 0 (snapshots case given 0 lens (start case)) a b i g (omega arith)
      (omega (arith, length_of_snapshots case given 0 lens (start case), all_blocks)) few hg
