-- The lines that violate, among those that are asked about, counted by the assignment and by the events of the run: the counts are equal.
-- Assumes nothing. Met again in Runs, for constraint 7.
use mathlib.Core.Path.{◌≡◌, refl, sym, ap, ◌∙◌}
use Prim.Native.Nat.{ℕ, zero, suc, ◌+◌, ◌%◌, ◌≤◌}
use mathlib.Core.Bool.{Bool, true, false, ◌&&◌}
use mathlib.Core.List.{List, [], ◌∷◌, ◌++◌}
use native.Mathlib.Omega.{arith}
use native.Mathlib.Nat.{zero-add}
use lib.ListN.{get_or, length, drop}
use Rattle.model.specs.Word.{bit}
use Rattle.model.specs.CaseFile.{Line, Case}
use Rattle.model.specs.declared.Kind.{Kind}
use Rattle.model.specs.declared.Kind.TheVariants.{Compute, Store, Load, Input, Assert, Assume, Lock, Unlock}
use Rattle.model.specs.Line.{reads_of, guard_true, value_of, breaks}
use Rattle.model.specs.Machine.{Memory, State, look, reads_in, stepped, rest_in, memory_in}
use Rattle.model.specs.Assignment.{Assignment}
use Rattle.model.specs.Copies.{reads_after}
use Rattle.model.specs.Holds.{breaks_after}
use Rattle.model.specs.Runs.{next_state}
use Rattle.laws.specs.Order.{AllLines, Positive}
use Rattle.laws.proofs.Views.{and_false}
use Rattle.laws.proofs.Unrun.{run_within_blocks, unrun_past_blocks}
use Rattle.laws.proofs.Breaking.{unrun_breaks_nothing}
use Rattle.correspondence.specs.Meaning.{WellFormed, breaks_in, sum_below}
use Rattle.correspondence.specs.Trace.{Event, block_events, left_events, all_left_events, events}
use Rattle.correspondence.specs.Agreement.{broken_in}
use Rattle.correspondence.proofs.Sums.{sum_below_zero, sum_below_differs_at}
use Rattle.correspondence.proofs.Step.{MemoryFits, step_fits, Corresponds, step_keeps_correspondence}
use Rattle.laws.proofs.AllLines.{each_thread}
use Rattle.correspondence.proofs.Order.{run_more, HasBlock, NextIn}
use Rattle.correspondence.proofs.Block.{BlockRuns, Unrun, same_readers}
use Rattle.correspondence.proofs.Blocks.{changed_same, changed_other, rests_after, earlier_after, BlocksNext, turn, own_rest_after, other_rest_after}
use Rattle.correspondence.proofs.Values.{Invariant, BlocksRun, rest_positive, memory_fits, correspondence_at_block, left_past_blocks, invariant_after_block}

module _ (asked : Line → Bool) where
  pub broken_in_append : (es fs : List Event) → broken_in asked (es ++ fs) ≡ broken_in asked es + broken_in asked fs
  broken_in_append [] fs = sym (zero-add (broken_in asked fs))
  broken_in_append (e ∷ es) fs = omega (arith, broken_in_append es fs)

  left_breaks_nothing : (i : ℕ) (ls : List Line) → broken_in asked (left_events i ls) ≡ 0
  left_breaks_nothing i [] = refl
  left_breaks_nothing i (l ∷ ls) = omega (arith, ap bit (and_false (asked l)), left_breaks_nothing i ls)

  pub all_left_breaks_nothing : (i : ℕ) (rests : List (List Line)) → broken_in asked (all_left_events i rests) ≡ 0
  all_left_breaks_nothing i [] = refl
  all_left_breaks_nothing i (ls ∷ rests) =
      omega (arith, broken_in_append (left_events i ls) (all_left_events i rests), left_breaks_nothing i ls, all_left_breaks_nothing i rests)

-- What an input is given does not matter.
breaks_whatever_given : (G : ℕ) (reader : ℕ → ℕ) (run : Bool) (kind : Kind) (l : Line) (x y value : ℕ)
    → breaks run kind l (reads_of G reader l x) value ≡ breaks run kind l (reads_of G reader l y) value
unfolding breaks guard_true
breaks_whatever_given G reader run Compute l x y value = refl
breaks_whatever_given G reader run Store l x y value = refl
breaks_whatever_given G reader run Load l x y value = refl
breaks_whatever_given G reader run Input l x y value = refl
breaks_whatever_given G reader run Assert l x y value = refl
breaks_whatever_given G reader run Assume l x y value = refl
breaks_whatever_given G reader run Lock l x y value = refl
breaks_whatever_given G reader run Unlock l x y value = refl

module _ (case : Case) (wf : WellFormed case) (given : ℕ → ℕ) (α : Assignment) (asked : Line → Bool) where
  line_breaks_alike : (i : ℕ) (l : Line) (earlier : List Line) (m : Memory) → i ≤ case.n → α.block l.number ≡ i
      → Corresponds case α i earlier m → α.value l.number ≡ value_of l (reads_in case given l m)
      → breaks_after case α earlier l ≡ breaks true l.kind l (reads_in case given l m) (value_of l (reads_in case given l m))
  line_breaks_alike i l earlier m few in_block corresponds has_value =
      ap (λ (run : Bool). breaks run l.kind l (reads_after case α earlier l) (α.value l.number))
      (run_within_blocks case (α.block l.number) (omega (arith, few, in_block)))
      ∙ ap (λ (reader : ℕ → ℕ). breaks true l.kind l (reads_of case.G reader l (α.value l.number)) (α.value l.number))
      (sym (same_readers case α i l earlier m in_block corresponds))
      ∙ breaks_whatever_given case.G (look m) true l.kind l (α.value l.number) (given l.number) (α.value l.number)
      ∙ ap (breaks true l.kind l (reads_in case given l m)) has_value

  block_breaks_alike : (i steps : ℕ) (ls earlier : List Line) (m : Memory) → i ≤ case.n → MemoryFits case m → AllLines Positive ls
      → NextIn α.block i steps ls
      → Corresponds case α i earlier m → BlockRuns case given α steps ls m
      → breaks_in case α asked earlier ls
      ≡ broken_in asked (block_events case given i steps ls m) + breaks_in case α asked (run_more steps ls earlier) (drop steps ls)
  block_breaks_alike i zero ls earlier m few fits positive next corresponds runs = sym (zero-add (breaks_in case α asked earlier ls))
  block_breaks_alike i (suc steps) [] earlier m few fits positive next corresponds runs = absurd next
  block_breaks_alike i (suc steps) (l ∷ ls) earlier m few fits positive next corresponds runs =
      omega (
        arith,
        ap (λ (q : Bool). bit (asked l && q)) (line_breaks_alike i l earlier m few next.0 corresponds runs.0.has_value),
        block_breaks_alike i steps ls (l ∷ earlier) (stepped case given l m) few (step_fits case given l m fits) positive.1 next.1
            (step_keeps_correspondence case α wf given i l earlier m fits positive.0 next.0 runs.0.has_value corresponds) runs.1,
      )

  left_has_no_break : (earlier ls : List Line) → AllLines (HasBlock α.block (suc case.n)) ls → AllLines (Unrun case given α) ls
      → breaks_in case α asked earlier ls ≡ 0
  left_has_no_break earlier [] after left = refl
  left_has_no_break earlier (l ∷ ls) after left =
      let reads = reads_after case α earlier l in
      omega (
        arith,
        ap (λ (q : Bool). bit (asked l && q))
            (ap (λ (run : Bool). breaks run l.kind l reads (α.value l.number)) (unrun_past_blocks case (α.block l.number) after.0)
            ∙ ap (breaks false l.kind l reads) left.0.has_value
            ∙ unrun_breaks_nothing l.kind l reads),
        ap bit (and_false (asked l)),
        left_has_no_break (l ∷ earlier) ls after.1 left.1,
      )

  -- The breaks of the lines that are left, thread by thread.
  abbrev pub breaks_left : List (List Line) → (ℕ → List Line) → ℕ → ℕ
  breaks_left rests earlier t = breaks_in case α asked (earlier t) (get_or rests t [])

  pub run_breaks_alike : (i : ℕ) (lens : List ℕ) (s : State) (earlier : ℕ → List Line) → i + length lens ≡ suc case.n
      → Invariant case α i s earlier
      → BlocksNext case α i lens s.rests → BlocksRun case given α i lens s
      → sum_below (breaks_left s.rests earlier) case.T ≡ broken_in asked (events case given i lens s)
  run_breaks_alike i [] s earlier last inv blocks runs =
      sum_below_zero (breaks_left s.rests earlier) case.T
      (λ t ht. left_has_no_break (earlier t) (get_or s.rests t []) (left_past_blocks case wf given α i s.rests last blocks t)
      (each_thread (Unrun case given α) s.rests runs t))
      ∙ sym (all_left_breaks_nothing asked i s.rests)
  run_breaks_alike i (len ∷ lens) s earlier last inv blocks runs =
      let t = i % case.T in
      let few : i ≤ case.n = omega (arith, last) in
      let run = run_more len (rest_in case i s) (earlier t) in
      let later = earlier_after case i len s.rests earlier in
      let here = block_events case given i len (rest_in case i s) (memory_in case i s) in
      let ih = run_breaks_alike (suc i) lens (next_state case given i len s) later (omega (arith, last))
      (invariant_after_block case wf α i s earlier inv given len few blocks.0 runs.0 runs.1) blocks.1 runs.2 in
      let block = block_breaks_alike i len (rest_in case i s) (earlier t) (memory_in case i s) few (memory_fits case wf α i s earlier inv)
      (rest_positive case wf α i s earlier inv) blocks.0 (correspondence_at_block case wf α i s earlier inv few) runs.0 in
      sum_below_differs_at (breaks_left s.rests earlier) (breaks_left (rests_after case i len s.rests) later) t (broken_in asked here)
      case.T (turn case wf i)
      (rw (changed_same earlier t run t refl, own_rest_after case wf i len s.rests inv.all_rests) block)
      (λ u differs hu. rw (changed_other earlier t run u differs, other_rest_after case wf i len s.rests inv.all_rests u differs))
      ∙ ap (λ (x : ℕ). broken_in asked here + x) ih
      ∙ sym (broken_in_append asked here (events case given (suc i) lens (next_state case given i len s)))
