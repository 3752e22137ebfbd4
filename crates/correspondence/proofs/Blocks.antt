-- All blocks, block numbers alone: constraints 1 to 3 and the counted lengths say just that each block takes the next lines of
-- its thread, and that the lines which are left have block number n + 1.
-- Assumes nothing. Met again in Values and Runs; what is left after a block also in Endings and RunEnds.
use mathlib.Core.Path.{◌≡◌, refl, sym, ap, ◌∙◌}
use mathlib.Core.Logic.{◌≢◌}
use Prim.Native.Nat.{ℕ, suc, ◌+◌, ◌%◌, ◌≤◌, ◌<◌}
use mathlib.Core.Bool.{cond}
use mathlib.Core.List.{List, [], ◌∷◌, reverse_aux}
use native.Mathlib.Omega.{arith}
use native.Mathlib.Nat.{mod-lt, zero-add}
use lib.Dec.{eqb}
use lib.ListN.{get_or, set, length, drop, length-set}
use lib.Seq.{get_or-set_same, get_or-set_other}
use borrow.Author.Tests.{eq-eqb, ne_eqb}
use Rattle.laws.proofs.Views.{EqView, same, diff, eq_view}
use Rattle.model.specs.CaseFile.{Line, Case, lines_of}
use Rattle.model.specs.Assignment.{Assignment}
use Rattle.model.specs.Schedule.{lines_in_block}
use Rattle.laws.specs.Order.{AllThreads, Ordered}
use Rattle.correspondence.specs.Meaning.{WellFormed, Counted}
use Rattle.laws.proofs.AllLines.{all_threads_lem, each_thread}
use Rattle.laws.proofs.Walk.{RunBefore, run_before_weakened}
use Rattle.correspondence.proofs.Order.{run_more, run_more_and_rest, HasBlock, NextIn, run_before_has_none, run_before_after_block, lines_in_block_of_reverse, ordered_weakened, ordered_past_other_thread, ordered_end_is_unrun, unrun_is_ordered, counted_block_is_next, next_is_ordered, next_is_counted}

-- A function changed at one number.
unfoldable pub changed : {A : Type 0} → (ℕ → A) → ℕ → A → ℕ → A
changed f t x u = cond (eqb u t) x (f u)

pub changed_same : {A : Type 0} (f : ℕ → A) (t : ℕ) (x : A) (u : ℕ) → u ≡ t → changed f t x u ≡ x
unfolding changed
changed_same f t x u e = rw (eq-eqb u t e)

pub changed_other : {A : Type 0} (f : ℕ → A) (t : ℕ) (x : A) (u : ℕ) → u ≢ t → changed f t x u ≡ f u
unfolding changed
changed_other f t x u differs = rw (ne_eqb u t differs)

-- What holds of each thread, by a list and a function of threads, where both change at thread t.
module _ {A B : Type 0} (P : ℕ → A → B → Type 0) (default : A) (T : ℕ) (xs : List A) (f : ℕ → B) (t : ℕ) (x : A) (y : B) where
  pub each_after_change : t < length xs → P t x y → ((u : ℕ) → u ≢ t → u < T → P u (get_or xs u default) (f u))
      → (u : ℕ) → u < T → P u (get_or (set xs t x) u default) (changed f t y u)
  each_after_change h here others u hu = go (eq_view u t)
    where
      go : EqView u t → P u (get_or (set xs t x) u default) (changed f t y u)
      go (same e _) = rw (changed_same f t y u e) (rw (e, get_or-set_same xs t x default h) here)
      go (diff differs _) = rw (changed_other f t y u differs, get_or-set_other xs t u x default differs) (others u differs hu)

  pub of_changed_thread : t < length xs → t < T → ((u : ℕ) → u < T → P u (get_or (set xs t x) u default) (changed f t y u)) → P t x y
  of_changed_thread h ht each = rw (changed_same f t y t refl, get_or-set_same xs t x default h) at (each t ht)

  pub of_other_thread : ((u : ℕ) → u < T → P u (get_or (set xs t x) u default) (changed f t y u)) → (u : ℕ) → u ≢ t → u < T
      → P u (get_or xs u default) (f u)
  of_other_thread each u differs hu = rw (changed_other f t y u differs, get_or-set_other xs t u x default differs) at (each u hu)

-- Where thread t is before block i: the lines already run, latest first, are of earlier blocks, and the rest is to be run.
pub record Place (case : Case) (block : ℕ → ℕ) (i t : ℕ) (rest earlier : List Line) : Type 0 where
  pub whole : reverse_aux earlier rest ≡ lines_of case t
  pub before : RunBefore block i earlier

module _ (case : Case) (block : ℕ → ℕ) where
  pub place_after_block : (i t len : ℕ) (rest earlier : List Line) → NextIn block i len rest → Place case block i t rest earlier
      → Place case block (suc i) t (drop len rest) (run_more len rest earlier)
  place_after_block i t len rest earlier next place = record {
    whole = run_more_and_rest len rest earlier ∙ place.whole;
    before = run_before_after_block block i len rest earlier next (run_before_weakened block i (suc i) earlier (omega arith) place.before);
  }

  pub place_of_other_thread : (i t : ℕ) (rest earlier : List Line) → Place case block i t rest earlier
      → Place case block (suc i) t rest earlier
  place_of_other_thread i t rest earlier place = record {
    whole = place.whole;
    before = run_before_weakened block i (suc i) earlier (omega arith) place.before;
  }

  -- The lines of block i are all among those to be run.
  pub lines_in_block_of_rest : (i t : ℕ) (rest earlier : List Line) → Place case block i t rest earlier
      → lines_in_block block i (lines_of case t) ≡ lines_in_block block i rest
  lines_in_block_of_rest i t rest earlier place =
      ap (lines_in_block block i) (sym place.whole)
      ∙ lines_in_block_of_reverse block i earlier rest
      ∙ ap (λ (x : ℕ). x + lines_in_block block i rest) (run_before_has_none block i i earlier (omega arith) place.before)
      ∙ zero-add (lines_in_block block i rest)

-- The lines of block i's thread that are left, and what is left of each thread after the block.
abbrev pub rest_of : Case → ℕ → List (List Line) → List Line
rest_of case i rests = get_or rests (i % case.T) []

abbrev pub rests_after : Case → ℕ → ℕ → List (List Line) → List (List Line)
rests_after case i len rests = set rests (i % case.T) (drop len (rest_of case i rests))

-- The lines that each thread has run, latest first, after block i.
abbrev pub earlier_after : Case → ℕ → ℕ → List (List Line) → (ℕ → List Line) → ℕ → List Line
earlier_after case i len rests earlier = changed earlier (i % case.T) (run_more len (rest_of case i rests) (earlier (i % case.T)))

-- Block i's thread is one of the threads, and what each has left after the block is this.
module _ (case : Case) (wf : WellFormed case) (i : ℕ) where
  pub turn : i % case.T < case.T
  turn = mod-lt i wf.some_thread

  pub turn_in : {A : Type 0} (xs : List A) → length xs ≡ case.T → i % case.T < length xs
  turn_in xs count = rw count turn

  module _ (len : ℕ) (rests : List (List Line)) (count : length rests ≡ case.T) where
    pub rests_kept : length (rests_after case i len rests) ≡ case.T
    rests_kept = length-set rests (i % case.T) (drop len (rest_of case i rests)) ∙ count

    pub own_rest_after : get_or (rests_after case i len rests) (i % case.T) [] ≡ drop len (rest_of case i rests)
    own_rest_after = get_or-set_same rests (i % case.T) (drop len (rest_of case i rests)) [] (turn_in rests count)

    pub other_rest_after : (t : ℕ) → t ≢ i % case.T → get_or (rests_after case i len rests) t [] ≡ get_or rests t []
    other_rest_after t differs = get_or-set_other rests (i % case.T) t (drop len (rest_of case i rests)) [] differs

module _ (case : Case) (α : Assignment) where
  -- From block i on, each block takes the next lines of its thread, and those that are left have the number after the last block's.
  abbrev pub BlocksNext : ℕ → List ℕ → List (List Line) → Type 0
  BlocksNext i [] rests = AllThreads (HasBlock α.block i) rests
  BlocksNext i (len ∷ lens) rests = NextIn α.block i len (rest_of case i rests) × BlocksNext (suc i) lens (rests_after case i len rests)

  abbrev pub Places : ℕ → List (List Line) → (ℕ → List Line) → Type 0
  Places i rests earlier = (t : ℕ) → t < case.T → Place case α.block i t (get_or rests t []) (earlier t)

  abbrev pub AllOrdered : ℕ → List (List Line) → Type 0
  AllOrdered i rests = (t : ℕ) → t < case.T → Ordered case α.block t i (get_or rests t [])

  module _ (wf : WellFormed case) where
    pub places_after_block : (i len : ℕ) (rests : List (List Line)) (earlier : ℕ → List Line) → length rests ≡ case.T
        → NextIn α.block i len (rest_of case i rests) → Places i rests earlier
        → Places (suc i) (rests_after case i len rests) (earlier_after case i len rests earlier)
    places_after_block i len rests earlier count next places =
        each_after_change (Place case α.block (suc i)) [] case.T rests earlier (i % case.T) _ _ (turn_in case wf i rests count)
        (place_after_block case α.block i (i % case.T) len (rest_of case i rests) (earlier (i % case.T)) next
        (places (i % case.T) (turn case wf i)))
        (λ t differs ht. place_of_other_thread case α.block i t (get_or rests t []) (earlier t) (places t ht))

    pub blocks_of_order : (i : ℕ) (lens : List ℕ) (rests : List (List Line)) (earlier : ℕ → List Line) → length rests ≡ case.T
        → i + length lens ≡ suc case.n → Counted case α i lens → Places i rests earlier → AllOrdered i rests → BlocksNext i lens rests
    blocks_of_order i [] rests earlier count last counted places ordered =
        all_threads_lem (HasBlock α.block i) rests
        (λ t ht. ordered_end_is_unrun case α.block t i (get_or rests t []) (omega arith) (ordered t (omega arith)))
    blocks_of_order i (len ∷ lens) rests earlier count last counted places ordered =
        let t = i % case.T in
        let rest = rest_of case i rests in
        let both = counted_block_is_next case α.block t i len rest
        (counted.0 ∙ lines_in_block_of_rest case α.block i t rest (earlier t) (places t (turn case wf i))) (ordered t (turn case wf i)) in (
          both.0,
          blocks_of_order (suc i) lens (rests_after case i len rests) (earlier_after case i len rests earlier)
              (rests_kept case wf i len rests count) (omega arith) counted.1
              (places_after_block i len rests earlier count both.0 places)
              (each_after_change (λ u rest' _. Ordered case α.block u (suc i) rest') [] case.T rests earlier t (drop len rest) []
              (turn_in case wf i rests count) both.1
              (λ u differs hu. ordered_past_other_thread case α.block u i (get_or rests u []) (omega arith) (λ e. differs (sym e))
              (ordered u hu))),
        )

    pub ordered_after_block : (i len : ℕ) (rests : List (List Line)) → length rests ≡ case.T
        → AllOrdered (suc i) (rests_after case i len rests) → Ordered case α.block (i % case.T) (suc i) (drop len (rest_of case i rests))
    ordered_after_block i len rests count ordered = rw (own_rest_after case wf i len rests count) at (ordered (i % case.T) (turn case wf i))

    ordered_before_block : (i len : ℕ) (rests : List (List Line)) → length rests ≡ case.T → i ≤ case.n
        → NextIn α.block i len (rest_of case i rests) → AllOrdered (suc i) (rests_after case i len rests) → AllOrdered i rests
    ordered_before_block i len rests count few next ordered t ht = go (eq_view t (i % case.T))
      where
        go : EqView t (i % case.T) → Ordered case α.block t i (get_or rests t [])
        go (same e _) =
            rw e (next_is_ordered case α.block (i % case.T) i len (rest_of case i rests) few refl next
            (ordered_after_block i len rests count ordered))
        go (diff differs _) = ordered_weakened case α.block t (suc i) i (get_or rests t []) (omega arith)
            (rw (other_rest_after case wf i len rests count t differs) at (ordered t ht))

    pub order_of_blocks : (i : ℕ) (lens : List ℕ) (rests : List (List Line)) (earlier : ℕ → List Line) → length rests ≡ case.T
        → i + length lens ≡ suc case.n → BlocksNext i lens rests → Places i rests earlier → AllOrdered i rests × Counted case α i lens
    order_of_blocks i [] rests earlier count last blocks places =
        let unrun = each_thread (HasBlock α.block i) rests blocks in
        ((λ t ht. unrun_is_ordered case α.block t i (get_or rests t []) (omega arith) (unrun t)), tt)
    order_of_blocks i (len ∷ lens) rests earlier count last blocks places =
        let t = i % case.T in
        let rest = rest_of case i rests in
        let ih = order_of_blocks (suc i) lens (rests_after case i len rests) (earlier_after case i len rests earlier)
        (rests_kept case wf i len rests count) (omega arith) blocks.1
        (places_after_block i len rests earlier count blocks.0 places) in (
          ordered_before_block i len rests count (omega arith) blocks.0 ih.0,
          (
            sym (lines_in_block_of_rest case α.block i t rest (earlier t) (places t (turn case wf i))
                ∙ next_is_counted case α.block t i len rest blocks.0 (ordered_after_block i len rests count ih.0)),
            ih.1,
          ),
        )
