-- All blocks, values: between blocks the machine's locals and items are what the assignment says, so constraints 4 to 6 and the
-- decoded inputs say just that the machine runs through with the assignment's values, and that what it leaves was not run.
-- Assumes nothing. Met again in Runs; the invariant also in Breaks.
use mathlib.Core.Path.{◌≡◌, refl, sym, ap, ◌∙◌, subst}
use Prim.Native.Nat.{ℕ, suc, ◌+◌, ◌-◌, ◌%◌, ◌≤◌, ◌<◌}
use mathlib.Core.List.{List, [], ◌∷◌, ◌++◌, reverse_aux, reverse, append-nil}
use native.Mathlib.Omega.{arith}
use native.Mathlib.Nat.{le_refl}
use lib.ListN.{get_or, length, drop, length-set, get_or-eq_default}
use borrow.Author.Tests.{lt-ltb, le-ltb}
use Rattle.laws.proofs.Views.{EqView, same, diff, eq_view, LtView, below, above, lt_view}
use Rattle.model.specs.Limits.{local_count}
use Rattle.model.specs.CaseFile.{Line, Case, lines_of, item_count}
use Rattle.model.specs.Line.{item_name}
use Rattle.model.specs.Machine.{Memory, State, look, rest_in, memory_in}
use Rattle.model.specs.Assignment.{Assignment}
use Rattle.model.specs.Copies.{latest, value_before, read_local, read_item, read_name, read_after, walk_back}
use Rattle.laws.specs.Order.{AllLines, AllThreads, Positive, Ordered}
use Rattle.correspondence.specs.Meaning.{WellFormed, BlockMet}
use Rattle.model.specs.Runs.{end_memory, next_state}
use Rattle.correspondence.specs.Agreement.{Snapshot}
use Rattle.laws.proofs.Copies.{item_of_name}
use Rattle.correspondence.proofs.Step.{MemoryFits, Corresponds}
use Rattle.laws.proofs.AllLines.{all_threads_lem, each_thread, all_earlier_and_rest}
use Rattle.correspondence.proofs.Order.{run_more, HasBlock, NextIn}
use Rattle.laws.proofs.Walk.{RunBefore, walk_back_past_later_blocks, walk_back_is_reading_latest, read_item_at_start}
use Rattle.correspondence.proofs.Block.{BlockRuns, LinesDecoded, Unrun, decoded_lines_are_unrun, unrun_lines_are_decoded, steps_fit, block_keeps_correspondence, decoded_block_runs, block_that_runs_is_decoded}
use Rattle.correspondence.proofs.Blocks.{each_after_change, of_changed_thread, of_other_thread, Place, place_after_block, rests_after, earlier_after, BlocksNext, Places, turn, turn_in, rests_kept, places_after_block, ordered_after_block, order_of_blocks}

reverse_of_reverse_aux : (earlier ls later : List Line) → reverse_aux (reverse_aux earlier ls) later ≡ reverse_aux ls (earlier ++ later)
reverse_of_reverse_aux [] ls later = refl
reverse_of_reverse_aux (l ∷ earlier) ls later = reverse_of_reverse_aux earlier (l ∷ ls) later

module _ (case : Case) (α : Assignment) where
  -- A thread's 16 locals between its blocks, after these lines of it.
  pub record LocalsAre (earlier : List Line) (locals : List ℕ) : Type 0 where
    pub all_locals : length locals ≡ local_count
    pub read : (name : ℕ) → name < local_count → get_or locals name 0 ≡ read_local α (latest case.G name earlier)

  -- Where block i starts, the correspondence is that of the thread's locals and of the items.
  pub correspondence_at_start : (i : ℕ) (earlier : List Line) (m : Memory) → length m.items ≡ item_count case → AllLines Positive earlier
      → RunBefore α.block i earlier → LocalsAre earlier m.locals
      → ((g : ℕ) → g < item_count case → get_or m.items g 0 ≡ value_before case α i g)
      → Corresponds case α i earlier m
  unfolding look read_after read_name
  correspondence_at_start i earlier m all_items positive before locals items name =
      go (lt_view name local_count) (lt_view (name - local_count) (item_count case))
    where
      go : LtView name local_count → LtView (name - local_count) (item_count case) → look m name ≡ read_after case α i earlier name
      go (below h e) _ = rw e (locals.read name h)
      go (above h e) (below h' e') =
          rw (e, e') (items (name - local_count) h' ∙ sym (read_item_at_start case α i (name - local_count) earlier positive before)
          ∙ ap (λ (x : ℕ). read_item case α i (name - local_count) (latest case.G x earlier)) back)
        where
          back : item_name (name - local_count) ≡ name
          back = omega arith
      go (above h e) (above h' e') = rw (e, e') (get_or-eq_default m.items 0 {n = name - local_count} (omega arith))

  pub locals_of_correspondence : (i : ℕ) (earlier : List Line) (m : Memory) → length m.locals ≡ local_count
      → Corresponds case α i earlier m
      → LocalsAre earlier m.locals
  unfolding look read_after read_name
  locals_of_correspondence i earlier m all_locals corresponds = record {
    all_locals = all_locals;
    read = λ name h. simp (lt-ltb name local_count h) at (corresponds name);
  }

  pub item_of_correspondence : (i g : ℕ) (earlier : List Line) (m : Memory) → g < item_count case → Corresponds case α i earlier m
      → get_or m.items g 0 ≡ read_item case α i g (latest case.G (item_name g) earlier)
  unfolding look read_after read_name
  item_of_correspondence i g earlier m h corresponds =
      simp (le-ltb (item_name g) local_count (omega arith), item_of_name g, lt-ltb g (item_count case) h) at (corresponds (item_name g))

  -- Where a block ends, an item has the value that constraint 6 finds by walking back over the whole thread.
  pub item_at_end : (i t g : ℕ) (rest earlier : List Line) (m : Memory) → g < item_count case → AllLines Positive earlier
      → Place case α.block (suc i) t rest earlier → Ordered case α.block t (suc i) rest → Corresponds case α i earlier m
      → get_or m.items g 0 ≡ walk_back case α i g (reverse (lines_of case t))
  item_at_end i t g rest earlier m h positive place ordered corresponds =
      item_of_correspondence i g earlier m h corresponds
      ∙ sym (walk_back_is_reading_latest case α i g earlier positive place.before)
      ∙ sym (walk_back_past_later_blocks case α t (suc i) i g rest earlier (omega arith) ordered)
      ∙ ap (λ (x : List Line). walk_back case α i g (reverse_aux rest x)) (sym (append-nil earlier))
      ∙ ap (walk_back case α i g) (sym (reverse_of_reverse_aux earlier rest []))
      ∙ ap (λ (x : List Line). walk_back case α i g (reverse x)) place.whole

  -- Where block i starts: what each thread has run and holds, and the items.
  pub record Invariant (i : ℕ) (s : State) (earlier : ℕ → List Line) : Type 0 where
    pub places : Places case α i s.rests earlier
    pub locals : (t : ℕ) → t < case.T → LocalsAre (earlier t) (get_or s.locals t [])
    pub items : i ≤ case.n → (g : ℕ) → g < item_count case → get_or s.items g 0 ≡ value_before case α i g
    pub all_rests : length s.rests ≡ case.T
    pub all_locals : length s.locals ≡ case.T
    pub all_items : length s.items ≡ item_count case

  -- Constraint 6 from block i on.
  abbrev pub BlocksMet : ℕ → Type 0
  BlocksMet i = (j : ℕ) → i ≤ j → j < case.n → (g : ℕ) → g < item_count case → BlockMet case α j g

module _ (case : Case) (given : ℕ → ℕ) (α : Assignment) where
  -- From block i on, each block runs with the assignment's values, and leaves its block values; what is left was not run.
  abbrev pub BlocksRun : ℕ → List ℕ → State → Type 0
  BlocksRun i [] s = AllThreads (Unrun case given α) s.rests
  BlocksRun i (len ∷ lens) s =
      BlockRuns case given α len (rest_in case i s) (memory_in case i s)
      × Snapshot case α i (next_state case given i len s).items
      × BlocksRun (suc i) lens (next_state case given i len s)

  -- Constraints 4 and 5 and the decoded inputs of the lines that are left.
  abbrev pub AllDecoded : State → (ℕ → List Line) → Type 0
  AllDecoded s earlier = (t : ℕ) → t < case.T → LinesDecoded case given α (earlier t) (get_or s.rests t [])

-- At block i, with the invariant: its thread's lines are numbered from 1, its memory is whole, and the correspondence holds.
module _ (case : Case) (wf : WellFormed case) (α : Assignment) (i : ℕ) (s : State) (earlier : ℕ → List Line)
    (inv : Invariant case α i s earlier) where
  numbered : (t : ℕ) → t < case.T → AllLines Positive (earlier t) × AllLines Positive (get_or s.rests t [])
  numbered t ht = all_earlier_and_rest Positive (earlier t) (get_or s.rests t []) (rw (inv.places t ht).whole (wf.positive t))

  pub rest_positive : AllLines Positive (rest_in case i s)
  rest_positive = (numbered (i % case.T) (turn case wf i)).1

  pub memory_fits : MemoryFits case (memory_in case i s)
  memory_fits = record { all_locals = (inv.locals (i % case.T) (turn case wf i)).all_locals; all_items = inv.all_items }

  pub correspondence_at_block : i ≤ case.n → Corresponds case α i (earlier (i % case.T)) (memory_in case i s)
  correspondence_at_block few =
      correspondence_at_start case α i (earlier (i % case.T)) (memory_in case i s) inv.all_items
      (numbered (i % case.T) (turn case wf i)).0
      (inv.places (i % case.T) (turn case wf i)).before (inv.locals (i % case.T) (turn case wf i)) (inv.items few)

  -- The block runs so many lines with the assignment's values.
  module _ (given : ℕ → ℕ) (len : ℕ) (few : i ≤ case.n) (next : NextIn α.block i len (rest_in case i s))
      (runs : BlockRuns case given α len (rest_in case i s) (memory_in case i s)) where
    pub correspondence_after_block : Corresponds case α i (run_more len (rest_in case i s) (earlier (i % case.T)))
        (end_memory case given i len s)
    correspondence_after_block =
        block_keeps_correspondence case given α wf i len (rest_in case i s) (earlier (i % case.T))
        (memory_in case i s) memory_fits rest_positive next runs (correspondence_at_block few)

    pub invariant_after_block : Snapshot case α i (next_state case given i len s).items
        → Invariant case α (suc i) (next_state case given i len s) (earlier_after case i len s.rests earlier)
    unfolding value_before
    invariant_after_block snapshot =
        let fits = steps_fit case given len (rest_in case i s) (memory_in case i s) memory_fits in
        record {
          places = places_after_block case α wf i len s.rests earlier inv.all_rests next inv.places;
          locals = each_after_change (λ t locals before. LocalsAre case α before locals) [] case.T s.locals earlier (i % case.T) _ _
              (turn_in case wf i s.locals inv.all_locals)
              (locals_of_correspondence case α i (run_more len (rest_in case i s) (earlier (i % case.T))) (end_memory case given i len s)
              fits.all_locals correspondence_after_block)
              (λ t differs ht. inv.locals t ht);
          items = λ h g hg. sym (snapshot h g hg);
          all_rests = rests_kept case wf i len s.rests inv.all_rests;
          all_locals = length-set s.locals _ _ ∙ inv.all_locals;
          all_items = fits.all_items;
        }

    -- Constraint 6 where the block ends, for the last block too.
    pub walk_back_at_end : (lens : List ℕ) → i + length (len ∷ lens) ≡ suc case.n
        → BlocksNext case α (suc i) lens (rests_after case i len s.rests)
        → (g : ℕ) → g < item_count case
        → get_or (next_state case given i len s).items g 0 ≡ walk_back case α i g (reverse (lines_of case (i % case.T)))
    walk_back_at_end lens last blocks g hg =
        let t = i % case.T in
        let place = place_after_block case α.block i t len (rest_in case i s) (earlier t) next (inv.places t (turn case wf i)) in
        let ordered = order_of_blocks case α wf (suc i) lens (rests_after case i len s.rests) (earlier_after case i len s.rests earlier)
        (rests_kept case wf i len s.rests inv.all_rests) (omega arith) blocks
        (places_after_block case α wf i len s.rests earlier inv.all_rests next inv.places) in
        item_at_end case α i t g (drop len (rest_in case i s)) (run_more len (rest_in case i s) (earlier t)) (end_memory case given i len s) hg
        (all_earlier_and_rest Positive (run_more len (rest_in case i s) (earlier t)) (drop len (rest_in case i s))
        (rw place.whole (wf.positive t))).0
        place
        (ordered_after_block case α wf i len s.rests inv.all_rests ordered.0)
        correspondence_after_block

module _ (case : Case) (wf : WellFormed case) (given : ℕ → ℕ) (α : Assignment) where
  -- After all blocks, what is left has block number n + 1.
  pub left_past_blocks : (i : ℕ) (rests : List (List Line)) → i + 0 ≡ suc case.n → BlocksNext case α i [] rests
      → (t : ℕ) → AllLines (HasBlock α.block (suc case.n)) (get_or rests t [])
  left_past_blocks i rests last blocks =
      each_thread (HasBlock α.block (suc case.n)) rests
      (subst (λ (x : ℕ). AllThreads (HasBlock α.block x) rests) (omega (arith, last)) blocks)

  pub blocks_run_lem : (i : ℕ) (lens : List ℕ) (s : State) (earlier : ℕ → List Line) → i + length lens ≡ suc case.n
      → Invariant case α i s earlier
      → BlocksNext case α i lens s.rests → AllDecoded case given α s earlier → BlocksMet case α i → BlocksRun case given α i lens s
  blocks_run_lem i [] s earlier last inv blocks decoded met =
      all_threads_lem (Unrun case given α) s.rests
      (λ t ht. decoded_lines_are_unrun case given α (earlier t) (get_or s.rests t []) (left_past_blocks i s.rests last blocks t)
      (decoded t (omega (arith, inv.all_rests))))
  blocks_run_lem i (len ∷ lens) s earlier last inv blocks decoded met =
      let t = i % case.T in
      let few : i ≤ case.n = omega (arith, last) in
      let both = decoded_block_runs case given α wf i len (rest_in case i s) (earlier t) (memory_in case i s)
      few (memory_fits case wf α i s earlier inv) (rest_positive case wf α i s earlier inv)
      blocks.0 (correspondence_at_block case wf α i s earlier inv few) (decoded t (turn case wf i)) in
      let snapshot : Snapshot case α i (next_state case given i len s).items =
      λ h g hg. met i (le_refl i) h g hg ∙ sym (walk_back_at_end case wf α i s earlier inv given len few blocks.0 both.0 lens last
      blocks.1 g hg) in (
        both.0,
        snapshot,
        blocks_run_lem (suc i) lens (next_state case given i len s) (earlier_after case i len s.rests earlier) (omega (arith, last))
            (invariant_after_block case wf α i s earlier inv given len few blocks.0 both.0 snapshot) blocks.1
            (each_after_change (λ u rest before. LinesDecoded case given α before rest) [] case.T s.rests earlier t
            (drop len (rest_in case i s)) (run_more len (rest_in case i s) (earlier t))
            (turn_in case wf i s.rests inv.all_rests) both.1 (λ u differs hu. decoded u hu))
            (λ j h. met j (omega (arith, h))),
      )

  decoded_before_block : (i len : ℕ) (s : State) (earlier : ℕ → List Line) → i ≤ case.n → Invariant case α i s earlier
      → NextIn α.block i len (rest_in case i s) → BlockRuns case given α len (rest_in case i s) (memory_in case i s)
      → AllDecoded case given α (next_state case given i len s) (earlier_after case i len s.rests earlier)
      → AllDecoded case given α s earlier
  decoded_before_block i len s earlier few inv next runs decoded t ht = go (eq_view t (i % case.T))
    where
      rest : List Line
      rest = drop len (rest_in case i s)

      run : List Line
      run = run_more len (rest_in case i s) (earlier (i % case.T))

      P : ℕ → List Line → List Line → Type 0
      P u rest' before = LinesDecoded case given α before rest'

      go : EqView t (i % case.T) → LinesDecoded case given α (earlier t) (get_or s.rests t [])
      go (same e _) =
          rw e (block_that_runs_is_decoded case given α wf i len (rest_in case i s) (earlier (i % case.T)) (memory_in case i s)
          few (memory_fits case wf α i s earlier inv)
          (rest_positive case wf α i s earlier inv) next (correspondence_at_block case wf α i s earlier inv few) runs
          (of_changed_thread P [] case.T s.rests earlier (i % case.T) rest run (turn_in case wf i s.rests inv.all_rests)
          (turn case wf i) decoded))
      go (diff differs _) = of_other_thread P [] case.T s.rests earlier (i % case.T) rest run decoded t differs ht

  blocks_met_before : (i : ℕ) → (i < case.n → (g : ℕ) → g < item_count case → BlockMet case α i g) → BlocksMet case α (suc i)
      → BlocksMet case α i
  blocks_met_before i here later j h few g hg = go (eq_view i j)
    where
      go : EqView i j → BlockMet case α j g
      go (same e _) = rw (← e) (here (omega arith) g hg)
      go (diff differs _) = later j (omega arith) few g hg

  pub decoded_of_run : (i : ℕ) (lens : List ℕ) (s : State) (earlier : ℕ → List Line) → i + length lens ≡ suc case.n
      → Invariant case α i s earlier
      → BlocksNext case α i lens s.rests → BlocksRun case given α i lens s → AllDecoded case given α s earlier × BlocksMet case α i
  decoded_of_run i [] s earlier last inv blocks runs = (
    (λ t ht. unrun_lines_are_decoded case given α (earlier t) (get_or s.rests t []) (left_past_blocks i s.rests last blocks t)
        (each_thread (Unrun case given α) s.rests runs t)),
    (λ j h h' g hg. absurd (omega arith)),
  )
  decoded_of_run i (len ∷ lens) s earlier last inv blocks runs =
      let few : i ≤ case.n = omega (arith, last) in
      let ih = decoded_of_run (suc i) lens (next_state case given i len s) (earlier_after case i len s.rests earlier) (omega (arith, last))
      (invariant_after_block case wf α i s earlier inv given len few blocks.0 runs.0 runs.1) blocks.1 runs.2 in (
        decoded_before_block i len s earlier few inv blocks.0 runs.0 ih.0,
        blocks_met_before i
            (λ h g hg. runs.1 h g hg ∙ walk_back_at_end case wf α i s earlier inv given len few blocks.0 runs.0 lens last blocks.1 g hg)
            ih.1,
      )
