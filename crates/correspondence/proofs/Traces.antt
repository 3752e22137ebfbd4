-- Traces: an assignment agrees with the trace of a run that finishes just where the blocks run with its numbers; every line has one
-- event; an assignment that agrees is the only one.
-- Assumes nothing. Met again in Runs.
use mathlib.Core.Path.{◌≡◌, refl, sym, ap, ◌∙◌}
use Prim.Native.Nat.{ℕ, zero, suc, ◌+◌, ◌%◌, ◌≤◌, ◌<◌}
use mathlib.Core.List.{List, [], ◌∷◌, ◌++◌, reverse_aux}
use native.Mathlib.Omega.{arith}
use native.Mathlib.Nat.{zero-add}
use lib.ListN.{get_or, set, length, drop}
use borrow.Author.Tests.{eq-eqb}
use Rattle.laws.proofs.Views.{EqView, same, diff, eq_view}
use Rattle.laws.proofs.Counting.{own_number_counts, number_is_other}
use Rattle.model.specs.CaseFile.{Line, Case, item_count, sum_of_lines, sum_of_threads, has_number}
use Rattle.model.specs.Machine.{Memory, State, stepped, rest_in, memory_in}
use Rattle.model.specs.Assignment.{Assignment}
use Rattle.model.specs.Runs.{next_state}
use Rattle.laws.specs.Order.{AllLines, AllThreads}
use Rattle.correspondence.specs.Meaning.{WellFormed}
use Rattle.correspondence.specs.Trace.{Event, block_events, left_events, all_left_events, events, snapshots}
use Rattle.correspondence.specs.Agreement.{sum_of_events, FinishesBlock, MayBeLeft, Finishes, Agrees, AgreesItems}
use Rattle.correspondence.specs.Traced.{block_in, value_in, traced}
use Rattle.laws.proofs.AllLines.{all_lines_map}
use Rattle.correspondence.proofs.Order.{HasBlock, NextIn}
use Rattle.correspondence.proofs.Block.{BlockRuns, Unrun}
use Rattle.correspondence.proofs.Blocks.{BlocksNext, turn_in, rests_kept}
use Rattle.correspondence.proofs.Values.{BlocksRun}

module _ (α : Assignment) where
  pub agrees_append : (es fs : List Event) → Agrees α es → Agrees α fs → Agrees α (es ++ fs)
  agrees_append [] fs a b = b
  agrees_append (e ∷ es) fs a b = (a.0, a.1, agrees_append es fs a.2 b)

  pub agrees_first : (es fs : List Event) → Agrees α (es ++ fs) → Agrees α es
  agrees_first [] fs a = tt
  agrees_first (e ∷ es) fs a = (a.0, a.1, agrees_first es fs a.2)

  pub agrees_second : (es fs : List Event) → Agrees α (es ++ fs) → Agrees α fs
  agrees_second [] fs a = a
  agrees_second (e ∷ es) fs a = agrees_second es fs a.2

module _ (case : Case) (given : ℕ → ℕ) (α : Assignment) where
  -- The lines that were not run, both ways.
  left_agrees : (i : ℕ) (ls : List Line) → AllLines (HasBlock α.block i) ls → AllLines (Unrun case given α) ls → Agrees α (left_events i ls)
  left_agrees i [] after unrun = tt
  left_agrees i (l ∷ ls) after unrun = (after.0, unrun.0.has_value, left_agrees i ls after.1 unrun.1)

  all_left_agrees : (i : ℕ) (rests : List (List Line)) → AllThreads (HasBlock α.block i) rests → AllThreads (Unrun case given α) rests
      → Agrees α (all_left_events i rests)
  all_left_agrees i [] after unrun = tt
  all_left_agrees i (ls ∷ rests) after unrun =
      agrees_append α (left_events i ls) (all_left_events i rests) (left_agrees i ls after.0 unrun.0)
      (all_left_agrees i rests after.1 unrun.1)

  agreed_left_is_unrun : (i : ℕ) (ls : List Line) → AllLines (MayBeLeft given) ls → Agrees α (left_events i ls)
      → AllLines (HasBlock α.block i) ls × AllLines (Unrun case given α) ls
  agreed_left_is_unrun i [] left agrees = (tt, tt)
  agreed_left_is_unrun i (l ∷ ls) left agrees =
      let ih = agreed_left_is_unrun i ls left.1 agrees.2 in
      ((agrees.0, ih.0), (record { has_value = agrees.1; not_stray = left.0 }, ih.1))

  all_agreed_left_is_unrun : (i : ℕ) (rests : List (List Line)) → AllThreads (MayBeLeft given) rests → Agrees α (all_left_events i rests)
      → AllThreads (HasBlock α.block i) rests × AllThreads (Unrun case given α) rests
  all_agreed_left_is_unrun i [] left agrees = (tt, tt)
  all_agreed_left_is_unrun i (ls ∷ rests) left agrees =
      let first = agreed_left_is_unrun i ls left.0 (agrees_first α (left_events i ls) (all_left_events i rests) agrees) in
      let others = all_agreed_left_is_unrun i rests left.1 (agrees_second α (left_events i ls) (all_left_events i rests) agrees) in
      ((first.0, others.0), (first.1, others.1))

  unrun_may_be_left : (rests : List (List Line)) → AllThreads (Unrun case given α) rests → AllThreads (MayBeLeft given) rests
  unrun_may_be_left [] unrun = tt
  unrun_may_be_left (ls ∷ rests) unrun =
      (all_lines_map (Unrun case given α) (MayBeLeft given) ls (λ l u. u.not_stray) unrun.0, unrun_may_be_left rests unrun.1)

  block_agrees : (i steps : ℕ) (ls : List Line) (m : Memory) → NextIn α.block i steps ls → BlockRuns case given α steps ls m
      → Agrees α (block_events case given i steps ls m)
  block_agrees i zero ls m next runs = tt
  block_agrees i (suc steps) [] m next runs = tt
  block_agrees i (suc steps) (l ∷ ls) m next runs =
      (next.0, runs.0.has_value, block_agrees i steps ls (stepped case given l m) next.1 runs.1)

  block_finishes : (steps : ℕ) (ls : List Line) (m : Memory) → BlockRuns case given α steps ls m → FinishesBlock case given steps ls m
  block_finishes zero ls m runs = tt
  block_finishes (suc steps) [] m runs = runs
  block_finishes (suc steps) (l ∷ ls) m runs = (runs.0.goes_on, runs.0.not_stray, block_finishes steps ls (stepped case given l m) runs.1)

  agreed_block_runs : (i steps : ℕ) (ls : List Line) (m : Memory) → FinishesBlock case given steps ls m
      → Agrees α (block_events case given i steps ls m)
      → NextIn α.block i steps ls × BlockRuns case given α steps ls m
  agreed_block_runs i zero ls m legal agrees = (tt, tt)
  agreed_block_runs i (suc steps) [] m legal agrees = absurd legal
  agreed_block_runs i (suc steps) (l ∷ ls) m legal agrees =
      let ih = agreed_block_runs i steps ls (stepped case given l m) legal.2 agrees.2 in
      ((agrees.0, ih.0), (record { has_value = agrees.1; goes_on = legal.0; not_stray = legal.1 }, ih.1))

  pub run_agrees : (i : ℕ) (lens : List ℕ) (s : State) → BlocksNext case α i lens s.rests → BlocksRun case given α i lens s
      → Agrees α (events case given i lens s)
  run_agrees i [] s blocks runs = all_left_agrees i s.rests blocks runs
  run_agrees i (len ∷ lens) s blocks runs =
      agrees_append α (block_events case given i len (rest_in case i s) (memory_in case i s))
      (events case given (suc i) lens (next_state case given i len s))
      (block_agrees i len (rest_in case i s) (memory_in case i s) blocks.0 runs.0)
      (run_agrees (suc i) lens (next_state case given i len s) blocks.1 runs.2)

  pub run_agrees_items : (i : ℕ) (lens : List ℕ) (s : State) → BlocksRun case given α i lens s
      → AgreesItems case α i (snapshots case given i lens s)
  run_agrees_items i [] s runs = tt
  run_agrees_items i (len ∷ lens) s runs = (runs.1, run_agrees_items (suc i) lens (next_state case given i len s) runs.2)

  pub run_finishes : (i : ℕ) (lens : List ℕ) (s : State) → BlocksRun case given α i lens s → Finishes case given i lens s
  run_finishes i [] s runs = unrun_may_be_left s.rests runs
  run_finishes i (len ∷ lens) s runs =
      (block_finishes len (rest_in case i s) (memory_in case i s) runs.0, run_finishes (suc i) lens (next_state case given i len s) runs.2)

  pub agreed_run : (i : ℕ) (lens : List ℕ) (s : State) → Finishes case given i lens s → Agrees α (events case given i lens s)
      → AgreesItems case α i (snapshots case given i lens s) → BlocksNext case α i lens s.rests × BlocksRun case given α i lens s
  agreed_run i [] s legal agrees items = all_agreed_left_is_unrun i s.rests legal agrees
  agreed_run i (len ∷ lens) s legal agrees items =
      let here = block_events case given i len (rest_in case i s) (memory_in case i s) in
      let later = events case given (suc i) lens (next_state case given i len s) in
      let block = agreed_block_runs i len (rest_in case i s) (memory_in case i s) legal.0 (agrees_first α here later agrees) in
      let ih = agreed_run (suc i) lens (next_state case given i len s) legal.1 (agrees_second α here later agrees) items.1 in
      ((block.0, ih.0), (block.1, items.0, ih.1))

-- The events have every line once, whatever the schedule: a weight adds up to the same over events and lines.
module _ (weight : Line → ℕ) where
  pub sum_of_events_append : (es fs : List Event) → sum_of_events weight (es ++ fs) ≡ sum_of_events weight es + sum_of_events weight fs
  sum_of_events_append [] fs = sym (zero-add (sum_of_events weight fs))
  sum_of_events_append (e ∷ es) fs = omega (arith, sum_of_events_append es fs)

  sum_of_block : (case : Case) (given : ℕ → ℕ) (i steps : ℕ) (ls : List Line) (m : Memory)
      → sum_of_events weight (block_events case given i steps ls m) + sum_of_lines weight (drop steps ls) ≡ sum_of_lines weight ls
  sum_of_block case given i zero ls m = zero-add (sum_of_lines weight ls)
  sum_of_block case given i (suc steps) [] m = refl
  sum_of_block case given i (suc steps) (l ∷ ls) m = omega (arith, sum_of_block case given i steps ls (stepped case given l m))

  sum_of_changed_thread : (threads : List (List Line)) (t : ℕ) (ls : List Line) → t < length threads
      → sum_of_threads weight (set threads t ls) + sum_of_lines weight (get_or threads t []) ≡ sum_of_threads weight threads + sum_of_lines weight ls
  sum_of_changed_thread [] t ls h = absurd (omega arith)
  sum_of_changed_thread (ls' ∷ threads) zero ls h = omega arith
  sum_of_changed_thread (ls' ∷ threads) (suc t) ls h = omega (arith, sum_of_changed_thread threads t ls (omega arith))

  sum_of_left : (i : ℕ) (ls : List Line) → sum_of_events weight (left_events i ls) ≡ sum_of_lines weight ls
  sum_of_left i [] = refl
  sum_of_left i (l ∷ ls) = omega (arith, sum_of_left i ls)

  sum_of_all_left : (i : ℕ) (rests : List (List Line)) → sum_of_events weight (all_left_events i rests) ≡ sum_of_threads weight rests
  sum_of_all_left i [] = refl
  sum_of_all_left i (ls ∷ rests) =
      omega (arith, sum_of_events_append (left_events i ls) (all_left_events i rests), sum_of_left i ls, sum_of_all_left i rests)

  pub sum_of_run : (case : Case) → WellFormed case → (given : ℕ → ℕ) (i : ℕ) (lens : List ℕ) (s : State) → length s.rests ≡ case.T
      → sum_of_events weight (events case given i lens s) ≡ sum_of_threads weight s.rests
  sum_of_run case wf given i [] s count = sum_of_all_left i s.rests
  sum_of_run case wf given i (len ∷ lens) s count =
      omega (
        arith,
        sum_of_events_append (block_events case given i len (rest_in case i s) (memory_in case i s))
            (events case given (suc i) lens (next_state case given i len s)),
        sum_of_block case given i len (rest_in case i s) (memory_in case i s),
        sum_of_changed_thread s.rests (i % case.T) (drop len (rest_in case i s)) (turn_in case wf i s.rests count),
        sum_of_run case wf given (suc i) lens (next_state case given i len s)
            (rests_kept case wf i len s.rests count),
      )

sum_of_events_reverse : (weight : Line → ℕ) (before es : List Event)
    → sum_of_events weight (reverse_aux before es) ≡ sum_of_events weight before + sum_of_events weight es
sum_of_events_reverse weight [] es = sym (zero-add (sum_of_events weight es))
sum_of_events_reverse weight (e ∷ before) es = omega (arith, sum_of_events_reverse weight before (e ∷ es))

-- Events of other records are passed over.
in_events_past_others : (k : ℕ) (before es : List Event) → sum_of_events (has_number k) before ≡ 0
    → (block_in k (reverse_aux before es) ≡ block_in k es) × (value_in k (reverse_aux before es) ≡ value_in k es)
in_events_past_others k [] es none = (refl, refl)
in_events_past_others k (e ∷ before) es none =
    let other = number_is_other k e.line (omega (arith, none)) in
    let ih = in_events_past_others k before (e ∷ es) (omega (arith, none)) in
    (ih.0 ∙ rw other, ih.1 ∙ rw other)

pub traced_agrees_with : (all before es : List Event) → all ≡ reverse_aux before es → ((k : ℕ) → sum_of_events (has_number k) all ≤ 1)
    → Agrees (traced all) es
traced_agrees_with all before [] split once = tt
traced_agrees_with all before (e ∷ es) split once =
    let k = e.line.number in
    let none : sum_of_events (has_number k) before ≡ 0 =
    omega (
      arith,
      once k,
      ap (sum_of_events (has_number k)) split,
      sum_of_events_reverse (has_number k) before (e ∷ es),
      own_number_counts e.line,
    ) in
    let found = in_events_past_others k before (e ∷ es) none in (
      ap (block_in k) split ∙ found.0 ∙ rw (eq-eqb k k refl),
      ap (value_in k) split ∙ found.1 ∙ rw (eq-eqb k k refl),
      traced_agrees_with all (e ∷ before) es split once,
    )

pub length_of_snapshots : (case : Case) (given : ℕ → ℕ) (i : ℕ) (lens : List ℕ) (s : State)
    → length (snapshots case given i lens s) ≡ length lens
length_of_snapshots case given i [] s = refl
length_of_snapshots case given i (len ∷ lens) s = ap suc (length_of_snapshots case given (suc i) lens (next_state case given i len s))

-- Two assignments that agree with the same events have the same numbers, and one with the same numbers agrees too.
module _ (α β : Assignment) where
  pub agreeing_records_are_same : (k : ℕ) (es : List Event) → Agrees α es → Agrees β es → 0 < sum_of_events (has_number k) es
      → (α.block k ≡ β.block k) × (α.value k ≡ β.value k)
  agreeing_records_are_same k [] a b h = absurd (omega arith)
  agreeing_records_are_same k (e ∷ es) a b h = go (eq_view e.line.number k) (agreeing_records_are_same k es a.2 b.2)
    where
      go : EqView e.line.number k → (0 < sum_of_events (has_number k) es → (α.block k ≡ β.block k) × (α.value k ≡ β.value k))
          → (α.block k ≡ β.block k) × (α.value k ≡ β.value k)
      go (same p _) ih =
          (ap α.block (sym p) ∙ a.0 ∙ sym b.0 ∙ ap β.block p, ap α.value (sym p) ∙ a.1 ∙ sym b.1 ∙ ap β.value p)
      go (diff _ q) ih = ih (omega (arith, rw q at h))

  pub agreeing_blocks_are_same : (case : Case) (i : ℕ) (items : List (List ℕ)) → AgreesItems case α i items → AgreesItems case β i items
      → (j g : ℕ) → i ≤ j → j < i + length items → j < case.n → g < item_count case → α.block_value j g ≡ β.block_value j g
  agreeing_blocks_are_same case i [] a b j g h h' few hg = absurd (omega arith)
  agreeing_blocks_are_same case i (x ∷ items) a b j g h h' few hg =
      go (eq_view i j) (agreeing_blocks_are_same case (suc i) items a.1 b.1 j g)
    where
      go : EqView i j → (suc i ≤ j → j < suc i + length items → j < case.n → g < item_count case → α.block_value j g ≡ β.block_value j g)
          → α.block_value j g ≡ β.block_value j g
      go (same e _) ih = rw (← e) (a.0 (omega arith) g hg ∙ sym (b.0 (omega arith) g hg))
      go (diff differs _) ih = ih (omega arith) (omega arith) few hg

  pub agrees_transfer : (es : List Event)
      → ((k : ℕ) → 0 < sum_of_events (has_number k) es → (α.block k ≡ β.block k) × (α.value k ≡ β.value k))
      → Agrees α es → Agrees β es
  agrees_transfer [] alike a = tt
  agrees_transfer (e ∷ es) alike a =
      let k = e.line.number in
      let numbers = alike k (omega (arith, own_number_counts e.line)) in
      (sym numbers.0 ∙ a.0, sym numbers.1 ∙ a.1, agrees_transfer es (λ j h. alike j (omega arith)) a.2)
