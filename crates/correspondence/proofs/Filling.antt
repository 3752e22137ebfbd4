-- Six: the numbers that filling writes are those of the run's trace, each in its variable's place, and as many as an assignment has.
-- Assumes nothing. Met again in Claims.
use mathlib.Core.Path.{◌≡◌, refl, sym, ap, ◌∙◌, subst}
use mathlib.Core.Logic.{◌≢◌}
use Prim.Native.Nat.{ℕ, zero, suc, ◌+◌, ◌*◌, ◌≤◌, ◌<◌}
use mathlib.Core.Bool.{Bool, true, false, cond}
use mathlib.Core.List.{List, [], ◌∷◌, ◌++◌, map}
use native.Mathlib.Omega.{arith}
use native.Mathlib.Nat.{add-zero, suc-mul, mul-le-mul, le_refl}
use borrow.Author.Tests.{lt-ltb}
use lib.Dec.{ltb}
use lib.ListN.{get_or, set, length, length-set}
use lib.Seq.{sets, length-sets, get_or-set_same, get_or-set_other}
use Rattle.laws.specs.RecordNumber.{RecordNumber}
use Rattle.laws.proofs.Counting.{own_number_counts}
use Rattle.model.specs.CaseFile.{Line, Case, item_count, has_number}
use Rattle.model.specs.Assignment.{variables, block_place, value_place, items_place, assignment_of}
use Rattle.model.specs.Machine.{Memory, State, stepped, rest_in, memory_in}
use Rattle.model.specs.Runs.{Step, block_steps, memory_after, next_state, last_state}
use Rattle.model.specs.Fill.{put_record, put_steps, put_items, put_blocks, put_unrun, put_all_unrun}
use Rattle.correspondence.specs.Trace.{Event, event_of, block_events, left_events, all_left_events, events, snapshots}
use Rattle.correspondence.specs.Agreement.{sum_of_events, Agrees, AgreesItems}
use Rattle.correspondence.proofs.Step.{length_put_item}
use Rattle.correspondence.proofs.Traces.{sum_of_events_append, agrees_append, agrees_transfer}

-- ---- Numbers written one after the other from a place on.
before_sets : (xs : List ℕ) (at : ℕ) (vs : List ℕ) (p : ℕ) → p < at → get_or (sets xs at vs) p 0 ≡ get_or xs p 0
before_sets xs at [] p h = refl
before_sets xs at (v ∷ vs) p h = before_sets (set xs at v) (suc at) vs p (omega arith) ∙ get_or-set_other xs at p v 0 (λ e. omega arith)

in_sets : (xs : List ℕ) (at : ℕ) (vs : List ℕ) (g : ℕ) → g < length vs → at + g < length xs → get_or (sets xs at vs) (at + g) 0 ≡ get_or vs g 0
in_sets xs at [] g h room = absurd (omega arith)
in_sets xs at (v ∷ vs) zero h room =
    ap (λ (p : ℕ). get_or (sets (set xs at v) (suc at) vs) p 0) (add-zero at)
    ∙ before_sets (set xs at v) (suc at) vs at (omega arith) ∙ get_or-set_same xs at v 0 (omega arith)
in_sets xs at (v ∷ vs) (suc g) h room =
    ap (λ (p : ℕ). get_or (sets (set xs at v) (suc at) vs) p 0) up
    ∙ in_sets (set xs at v) (suc at) vs g (omega arith) (omega (arith, length-set xs at v))
  where
    up : at + suc g ≡ suc at + g
    up = omega arith

-- ---- The events of a trace, written like the steps and the lines that they are of.
abbrev put_events : List Event → List ℕ → List ℕ
put_events [] xs = xs
put_events (e ∷ es) xs = put_events es (put_record e.line.number e.block e.value xs)

put_both : (es fs : List Event) (xs : List ℕ) → put_events (es ++ fs) xs ≡ put_events fs (put_events es xs)
put_both [] fs xs = refl
put_both (e ∷ es) fs xs = put_both es fs (put_record e.line.number e.block e.value xs)

length_of_events : (es : List Event) (xs : List ℕ) → length (put_events es xs) ≡ length xs
length_of_events [] xs = refl
length_of_events (e ∷ es) xs =
    let k = e.line.number in
    length_of_events es (put_record k e.block e.value xs) ∙ length-set (set xs (block_place k) e.block) (value_place k) e.value
    ∙ length-set xs (block_place k) e.block

module _ (case : Case) where
  put_of_steps : (given : ℕ → ℕ) (steps : List Step) (xs : List ℕ) → put_steps case given steps xs ≡ put_events (map (event_of case given) steps) xs
  put_of_steps given [] xs = refl
  put_of_steps given (s ∷ steps) xs = put_of_steps given steps _

  put_of_unrun : (i : ℕ) → i ≡ suc case.n → (ls : List Line) (xs : List ℕ) → put_unrun case ls xs ≡ put_events (left_events i ls) xs
  put_of_unrun i last [] xs = refl
  put_of_unrun i last (l ∷ ls) xs = rw (← last) (put_of_unrun i last ls _)

  put_of_all_unrun : (i : ℕ) → i ≡ suc case.n → (rests : List (List Line)) (xs : List ℕ) → put_all_unrun case rests xs ≡ put_events (all_left_events i rests) xs
  put_of_all_unrun i last [] xs = refl
  put_of_all_unrun i last (ls ∷ rests) xs =
      put_of_all_unrun i last rests (put_unrun case ls xs) ∙ ap (put_events (all_left_events i rests)) (put_of_unrun i last ls xs)
      ∙ sym (put_both (left_events i ls) (all_left_events i rests) xs)

  length_of_items : (i : ℕ) (items xs : List ℕ) → length (put_items case i items xs) ≡ length xs
  length_of_items i items xs = go (ltb i case.n)
    where
      go : (q : Bool) → length (cond q (sets xs (items_place case i) items) xs) ≡ length xs
      go true = length-sets xs (items_place case i) items
      go false = refl

  -- ---- What is kept.
  -- Both numbers of record k are as they were.
  abbrev Kept : ℕ → List ℕ → List ℕ → Type 0
  Kept k xs ys = ((assignment_of case xs).block k ≡ (assignment_of case ys).block k) × ((assignment_of case xs).value k ≡ (assignment_of case ys).value k)

  kept_on : (k : ℕ) (xs ys zs : List ℕ) → Kept k xs ys → Kept k ys zs → Kept k xs zs
  kept_on k xs ys zs a b = (a.0 ∙ b.0, a.1 ∙ b.1)

  -- Every number that occurs is that of a record, and none occurs twice.
  abbrev Within : List Event → Type 0
  Within es = (k : ℕ) → 0 < sum_of_events (has_number k) es → RecordNumber case.R k

  abbrev Once : List Event → Type 0
  Once es = (k : ℕ) → sum_of_events (has_number k) es ≤ 1

  other_record : (k j block value : ℕ) (xs : List ℕ) → 0 < k → 0 < j → k ≢ j → Kept k xs (put_record j block value xs)
  unfolding assignment_of
  other_record k j block value xs some some' differs = (
    sym (get_or-set_other (set xs (block_place j) block) (value_place j) (block_place k) value 0 (λ e. omega (arith, e))
        ∙ get_or-set_other xs (block_place j) (block_place k) block 0 (λ e. differs (omega (arith, e)))),
    sym (get_or-set_other (set xs (block_place j) block) (value_place j) (value_place k) value 0 (λ e. differs (omega (arith, e)))
        ∙ get_or-set_other xs (block_place j) (value_place k) block 0 (λ e. omega (arith, e))),
  )

  kept_by_events : (k : ℕ) → 0 < k → (es : List Event) → Within es → sum_of_events (has_number k) es ≡ 0 → (xs : List ℕ) → Kept k xs (put_events es xs)
  kept_by_events k some [] within none xs = (refl, refl)
  kept_by_events k some (e ∷ es) within none xs =
      let j = e.line.number in
      let own = within j (omega (arith, own_number_counts e.line)) in
      kept_on k xs (put_record j e.block e.value xs) _
      (other_record k j e.block e.value xs some own.some (λ p. omega (arith, none, own_number_counts e.line, ap (λ (x : ℕ). has_number x e.line) p)))
      (kept_by_events k some es (λ x h. within x (omega arith)) (omega (arith, none)) (put_record j e.block e.value xs))

  kept_by_items : (k : ℕ) → RecordNumber case.R k → (i : ℕ) (items xs : List ℕ) → Kept k xs (put_items case i items xs)
  unfolding assignment_of
  kept_by_items k own i items xs = go (ltb i case.n)
    where
      go : (q : Bool) → Kept k xs (cond q (sets xs (items_place case i) items) xs)
      go true = (
        sym (before_sets xs (items_place case i) items (block_place k) (omega (arith, own.some, own.low))),
        sym (before_sets xs (items_place case i) items (value_place k) (omega (arith, own.some, own.low))),
      )
      go false = (refl, refl)

  -- The number at a place past the records is as it was.
  item_kept_by_events : (p : ℕ) → 2 * case.R ≤ p → (es : List Event) → Within es → (xs : List ℕ) → get_or (put_events es xs) p 0 ≡ get_or xs p 0
  item_kept_by_events p past [] within xs = refl
  item_kept_by_events p past (e ∷ es) within xs =
      let k = e.line.number in
      let own = within k (omega (arith, own_number_counts e.line)) in
      item_kept_by_events p past es (λ x h. within x (omega arith)) (put_record k e.block e.value xs)
      ∙ get_or-set_other (set xs (block_place k) e.block) (value_place k) p e.value 0 (λ q. omega (arith, own.some, own.low))
      ∙ get_or-set_other xs (block_place k) p e.block 0 (λ q. omega (arith, own.some, own.low))

  item_kept_by_items : (p i : ℕ) (items xs : List ℕ) → p < items_place case i → get_or (put_items case i items xs) p 0 ≡ get_or xs p 0
  item_kept_by_items p i items xs h = go (ltb i case.n)
    where
      go : (q : Bool) → get_or (cond q (sets xs (items_place case i) items) xs) p 0 ≡ get_or xs p 0
      go true = before_sets xs (items_place case i) items p h
      go false = refl

  -- ---- Events that are written are there.
  events_held : (es : List Event) → Within es → Once es → (xs : List ℕ) → variables case ≤ length xs → Agrees (assignment_of case (put_events es xs)) es
  unfolding assignment_of
  events_held [] within once xs room = tt
  events_held (e ∷ es) within once xs room =
      let k = e.line.number in
      let own = within k (omega (arith, own_number_counts e.line)) in
      let first = set xs (block_place k) e.block in
      let both = put_record k e.block e.value xs in
      let kept = kept_by_events k own.some es (λ x h. within x (omega arith)) (omega (arith, once k, own_number_counts e.line)) both in (
        sym kept.0 ∙ get_or-set_other first (value_place k) (block_place k) e.value 0 (λ q. omega (arith, q))
            ∙ get_or-set_same xs (block_place k) e.block 0 (omega (arith, own.some, own.low)),
        sym kept.1 ∙ get_or-set_same first (value_place k) e.value 0 (omega (arith, own.some, own.low, length-set xs (block_place k) e.block)),
        events_held es (λ x h. within x (omega arith)) (λ x. omega (arith, once x)) both
            (omega (arith, length-set first (value_place k) e.value, length-set xs (block_place k) e.block)),
      )

  -- ---- The blocks of a run.
  module _ (given : ℕ → ℕ) where
    abbrev here : ℕ → ℕ → State → List Event
    here i len s = block_events case given i len (rest_in case i s) (memory_in case i s)

    abbrev later : ℕ → ℕ → List ℕ → State → List Event
    later i len lens s = events case given (suc i) lens (next_state case given i len s)

    -- What block i leaves, after its steps and at its end.
    abbrev stepped_on_lem : ℕ → ℕ → State → List ℕ → List ℕ
    stepped_on_lem i len s xs = put_steps case given (block_steps case given i len (rest_in case i s) (memory_in case i s)) xs

    as_events : (i len : ℕ) (s : State) (xs : List ℕ) → stepped_on_lem i len s xs ≡ put_events (here i len s) xs
    as_events i len s xs = put_of_steps given (block_steps case given i len (rest_in case i s) (memory_in case i s)) xs

    abbrev block_on : ℕ → ℕ → State → List ℕ → List ℕ
    block_on i len s xs = put_items case i (next_state case given i len s).items (stepped_on_lem i len s xs)

    abbrev pub filled_from : ℕ → List ℕ → State → List ℕ → List ℕ
    filled_from i lens s xs = put_all_unrun case (last_state case given i lens s).rests (put_blocks case given i lens s xs)

    length_of_block : (i len : ℕ) (s : State) (xs : List ℕ) → length (block_on i len s xs) ≡ length xs
    length_of_block i len s xs =
        length_of_items i (next_state case given i len s).items (stepped_on_lem i len s xs) ∙ ap length (as_events i len s xs) ∙ length_of_events (here i len s) xs

    pub length_of_filled : (i : ℕ) (lens : List ℕ) (s : State) (xs : List ℕ) → i + length lens ≡ suc case.n → length (filled_from i lens s xs) ≡ length xs
    length_of_filled i [] s xs last = ap length (put_of_all_unrun i (sym (add-zero i) ∙ last) s.rests xs) ∙ length_of_events (all_left_events i s.rests) xs
    length_of_filled i (len ∷ lens) s xs last =
        length_of_filled (suc i) lens (next_state case given i len s) (block_on i len s xs) (omega arith) ∙ length_of_block i len s xs

    within_here : (i len : ℕ) (lens : List ℕ) (s : State) → Within (here i len s ++ later i len lens s) → Within (here i len s)
    within_here i len lens s within k h = within k (omega (arith, sum_of_events_append (has_number k) (here i len s) (later i len lens s)))

    within_later : (i len : ℕ) (lens : List ℕ) (s : State) → Within (here i len s ++ later i len lens s) → Within (later i len lens s)
    within_later i len lens s within k h = within k (omega (arith, sum_of_events_append (has_number k) (here i len s) (later i len lens s)))

    filled_keeps : (i : ℕ) (lens : List ℕ) (s : State) (xs : List ℕ) → i + length lens ≡ suc case.n → Within (events case given i lens s)
        → (k : ℕ) → RecordNumber case.R k → sum_of_events (has_number k) (events case given i lens s) ≡ 0 → Kept k xs (filled_from i lens s xs)
    filled_keeps i [] s xs last within k own none =
        subst (Kept k xs) (sym (put_of_all_unrun i (sym (add-zero i) ∙ last) s.rests xs)) (kept_by_events k own.some (all_left_events i s.rests) within none xs)
    filled_keeps i (len ∷ lens) s xs last within k own none =
        let parts = sum_of_events_append (has_number k) (here i len s) (later i len lens s) in
        kept_on k xs (stepped_on_lem i len s xs) _
        (subst (Kept k xs) (sym (as_events i len s xs)) (kept_by_events k own.some (here i len s) (within_here i len lens s within) (omega (arith, parts, none)) xs))
        (kept_on k (stepped_on_lem i len s xs) (block_on i len s xs) _ (kept_by_items k own i (next_state case given i len s).items (stepped_on_lem i len s xs))
        (filled_keeps (suc i) lens (next_state case given i len s) (block_on i len s xs) (omega arith) (within_later i len lens s within) k own (omega (arith, parts, none))))

    pub filled_agrees_from : (i : ℕ) (lens : List ℕ) (s : State) (xs : List ℕ) → i + length lens ≡ suc case.n → Within (events case given i lens s)
        → Once (events case given i lens s) → variables case ≤ length xs → Agrees (assignment_of case (filled_from i lens s xs)) (events case given i lens s)
    filled_agrees_from i [] s xs last within once room =
        subst (λ (ys : List ℕ). Agrees (assignment_of case ys) (all_left_events i s.rests)) (sym (put_of_all_unrun i (sym (add-zero i) ∙ last) s.rests xs))
        (events_held (all_left_events i s.rests) within once xs room)
    filled_agrees_from i (len ∷ lens) s xs last within once room =
        let final = filled_from i (len ∷ lens) s xs in
        let steps_on = stepped_on_lem i len s xs in
        let parts : (k : ℕ) → sum_of_events (has_number k) (here i len s ++ later i len lens s) ≡ sum_of_events (has_number k) (here i len s) + sum_of_events (has_number k) (later i len lens s) =
        λ k. sum_of_events_append (has_number k) (here i len s) (later i len lens s) in
        let held : Agrees (assignment_of case steps_on) (here i len s) =
        subst (λ (ys : List ℕ). Agrees (assignment_of case ys) (here i len s)) (sym (as_events i len s xs))
        (events_held (here i len s) (within_here i len lens s within) (λ k. omega (arith, once k, parts k)) xs room) in
        agrees_append (assignment_of case final) (here i len s) (later i len lens s)
        (agrees_transfer (assignment_of case steps_on) (assignment_of case final) (here i len s)
        (λ k some. let own = within_here i len lens s within k some in
        kept_on k steps_on (block_on i len s xs) final (kept_by_items k own i (next_state case given i len s).items steps_on)
        (filled_keeps (suc i) lens (next_state case given i len s) (block_on i len s xs) (omega arith) (within_later i len lens s within) k own (omega (arith, once k, parts k, some))))
        held)
        (filled_agrees_from (suc i) lens (next_state case given i len s) (block_on i len s xs) (omega arith) (within_later i len lens s within)
        (λ k. omega (arith, once k, parts k)) (omega (arith, room, length_of_block i len s xs)))

    -- ---- The items where blocks end.
    item_kept : (i : ℕ) (lens : List ℕ) (s : State) (xs : List ℕ) → i + length lens ≡ suc case.n → Within (events case given i lens s)
        → (p : ℕ) → 2 * case.R ≤ p → p < items_place case i → get_or (filled_from i lens s xs) p 0 ≡ get_or xs p 0
    item_kept i [] s xs last within p past h =
        ap (λ (ys : List ℕ). get_or ys p 0) (put_of_all_unrun i (sym (add-zero i) ∙ last) s.rests xs) ∙ item_kept_by_events p past (all_left_events i s.rests) within xs
    item_kept i (len ∷ lens) s xs last within p past h =
        item_kept (suc i) lens (next_state case given i len s) (block_on i len s xs) (omega arith) (within_later i len lens s within) p past
        (omega (arith, suc-mul i (item_count case)))
        ∙ item_kept_by_items p i (next_state case given i len s).items (stepped_on_lem i len s xs) h
        ∙ ap (λ (ys : List ℕ). get_or ys p 0) (as_events i len s xs)
        ∙ item_kept_by_events p past (here i len s) (within_here i len lens s within) xs

    items_after_lem : (steps : ℕ) (ls : List Line) (m : Memory) → length (memory_after case given steps ls m).items ≡ length m.items
    items_after_lem zero ls m = refl
    items_after_lem (suc steps) [] m = refl
    items_after_lem (suc steps) (l ∷ ls) m = items_after_lem steps ls (stepped case given l m) ∙ length_put_item _ _ _ m.items

    pub filled_agrees_items_from : (i : ℕ) (lens : List ℕ) (s : State) (xs : List ℕ) → i + length lens ≡ suc case.n → Within (events case given i lens s)
        → length s.items ≡ item_count case → variables case ≤ length xs
        → AgreesItems case (assignment_of case (filled_from i lens s xs)) i (snapshots case given i lens s)
    unfolding assignment_of
    filled_agrees_items_from i [] s xs last within all room = tt
    filled_agrees_items_from i (len ∷ lens) s xs last within all room =
        let next = next_state case given i len s in
        let sized : length next.items ≡ item_count case = items_after_lem len (rest_in case i s) (memory_in case i s) ∙ all in
        let long = length_of_block i len s xs in (
          (λ few g hg.
              let p = items_place case i + g in
              let low : suc i * item_count case ≤ case.n * item_count case = mul-le-mul few (le_refl (item_count case)) in
              item_kept (suc i) lens next (block_on i len s xs) (omega arith) (within_later i len lens s within) p (omega arith) (omega (arith, suc-mul i (item_count case)))
              ∙ rw (lt-ltb i case.n few)
              (in_sets (stepped_on_lem i len s xs) (items_place case i) next.items g (omega (arith, sized))
              (omega (arith, low, suc-mul i (item_count case), room, ap length (as_events i len s xs), length_of_events (here i len s) xs)))),
          filled_agrees_items_from (suc i) lens next (block_on i len s xs) (omega arith) (within_later i len lens s within) sized (omega (arith, room, long)),
        )
