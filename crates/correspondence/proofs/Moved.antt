-- Five: why the 8s leave the solver's yes or no as it is. Each run, invisible line that is not its thread's first gets the new block number
-- of the line before it, and nothing else changes: values, block values and what lines read stay.
-- Assumes nothing. Met again in Demand3.
use mathlib.Core.Path.{◌≡◌, refl, sym, ap, ap₂, ◌∙◌, subst, fun_ext}
use Prim.Native.Nat.{ℕ, zero, suc, ◌+◌, ◌-◌, ◌%◌, ◌≤◌, ◌<◌}
use mathlib.Core.Bool.{Bool, true, false, cond, not, ◌&&◌, true≢false}
use mathlib.Core.List.{List, [], ◌∷◌, ◌++◌, reverse, reverse_aux}
use native.Mathlib.Omega.{arith}
use native.Mathlib.Nat.{le_refl, mod-lt}
use lib.Dec.{eqb, ltb}
use lib.ListN.{get_or}
use Rattle.model.specs.Word.{bit, nonzero}
use Rattle.model.specs.Limits.{local_count}
use Rattle.model.specs.CaseFile.{Line, Case, lines_of, item_count, sum_of_lines, sum_of_threads, has_number}
use Rattle.model.specs.declared.Kind.{Kind}
use Rattle.model.specs.declared.Kind.TheVariants.{Compute, Store, Load, Input, Assert, Assume, Lock, Unlock}
use Rattle.model.specs.Line.{no_name, item_name, local_name, guard_name, name_of_a, name_of_b, name_of_target, operand_a, operand_b, target_name, has_expression, reads_of, Reads, breaks, visible}
use Rattle.model.specs.Assignment.{Assignment, was_run}
use Rattle.model.specs.Copies.{latest, value_before, read_local, read_item, read_name, read_after, reads_after, walk_back}
use Rattle.model.specs.Schedule.{decoded_values, all_decoded_values}
use Rattle.laws.specs.Order.{AllLines, AllThreads, Ordered, Stays}
use Rattle.laws.proofs.Views.{EqView, same, diff, eq_view, LtView, below, above, lt_view, and-true}
use Rattle.laws.proofs.Unrun.{run_within_blocks, within_blocks_of_run}
use Rattle.laws.proofs.AllLines.{all_threads_lem}
use Rattle.laws.proofs.Copies.{read_name_no_name}
use Rattle.correspondence.specs.Meaning.{WellFormed, LinesMet, Meets, AllStay, breaks_in, break_count}
use Rattle.correspondence.specs.Trace.{Event}
use Rattle.correspondence.specs.Agreement.{sum_of_events, Agrees}
use Rattle.correspondence.specs.Traced.{block_in, traced}
use Rattle.correspondence.proofs.Sums.{sum_below_same}
use Rattle.correspondence.proofs.Order.{ordered_weakened}
use Rattle.correspondence.proofs.Traces.{agrees_first, agrees_second, sum_of_events_append, traced_agrees_with}

-- ---- The new block numbers: that of a line after one with new number b, and those of a thread's lines, as events.
module _ (case : Case) (block : ℕ → ℕ) where
  abbrev goes_along : Line → Bool
  goes_along l = was_run case (block l.number) && not (visible l.kind)

  abbrev new_block : ℕ → Line → ℕ
  new_block b l = cond (goes_along l) b (block l.number)

  abbrev first_block : List Line → ℕ
  first_block [] = 0
  first_block (l ∷ ls) = block l.number

  abbrev new_events : ℕ → List Line → List Event
  new_events b [] = []
  new_events b (l ∷ ls) = record { line = l; block = new_block b l; value = 0; broken = false } ∷ new_events (new_block b l) ls

  abbrev all_new_events : List (List Line) → List Event
  all_new_events [] = []
  all_new_events (ls ∷ threads) = new_events (first_block ls) ls ++ all_new_events threads

  -- These are the new numbers of lines, the first being after one with new number b.
  abbrev Moves : (ℕ → ℕ) → ℕ → List Line → Type 0
  Moves block' b [] = Unit
  Moves block' b (l ∷ ls) = (block' l.number ≡ new_block b l) × Moves block' (new_block b l) ls

  sum_of_new : (weight : Line → ℕ) (b : ℕ) (ls : List Line) → sum_of_events weight (new_events b ls) ≡ sum_of_lines weight ls
  sum_of_new weight b [] = refl
  sum_of_new weight b (l ∷ ls) = ap (λ (x : ℕ). weight l + x) (sum_of_new weight (new_block b l) ls)

  sum_of_all_new : (weight : Line → ℕ) (threads : List (List Line)) → sum_of_events weight (all_new_events threads) ≡ sum_of_threads weight threads
  sum_of_all_new weight [] = refl
  sum_of_all_new weight (ls ∷ threads) =
      omega (
        arith,
        sum_of_events_append weight (new_events (first_block ls) ls) (all_new_events threads),
        sum_of_new weight (first_block ls) ls,
        sum_of_all_new weight threads,
      )

  moves_of_agrees : (α : Assignment) (b : ℕ) (ls : List Line) → Agrees α (new_events b ls) → Moves α.block b ls
  moves_of_agrees α b [] agrees = tt
  moves_of_agrees α b (l ∷ ls) agrees = (agrees.0, moves_of_agrees α (new_block b l) ls agrees.2)

  all_moves : (α : Assignment) (threads : List (List Line)) → Agrees α (all_new_events threads) → (t : ℕ)
      → Moves α.block (first_block (get_or threads t [])) (get_or threads t [])
  all_moves α [] agrees t = tt
  all_moves α (ls ∷ threads) agrees zero = moves_of_agrees α (first_block ls) ls (agrees_first α (new_events (first_block ls) ls) (all_new_events threads) agrees)
  all_moves α (ls ∷ threads) agrees (suc t) = all_moves α threads (agrees_second α (new_events (first_block ls) ls) (all_new_events threads) agrees) t

  -- ---- What stays of a line: whether it was run, and its block number where it is visible.
  record Kept (block' : ℕ → ℕ) (l : Line) : Type 0 where
    still_run : was_run case (block' l.number) ≡ was_run case (block l.number)
    seen : visible l.kind ≡ true → block' l.number ≡ block l.number

  module _ (block' : ℕ → ℕ) (t : ℕ) where
    record Along (b : ℕ) (ls : List Line) : Type 0 where
      ordered : Ordered case block' t b ls
      kept : AllLines (Kept block') ls

    along : (low b : ℕ) (ls : List Line) → b ≤ low → b ≤ suc case.n → (b ≤ case.n → b % case.T ≡ t) → Ordered case block t low ls
        → Moves block' b ls → Along b ls
    along low b [] less upto mine ordered moves = record { ordered = tt; kept = tt }
    along low b (l ∷ ls) less upto mine ordered moves =
        go (goes_along l) refl moves.0 moves.1 (λ x. along (block l.number) x ls)
      where
        go : (q : Bool) → goes_along l ≡ q → block' l.number ≡ cond q b (block l.number) → Moves block' (cond q b (block l.number)) ls
            → ((x : ℕ) → x ≤ block l.number → x ≤ suc case.n → (x ≤ case.n → x % case.T ≡ t)
            → Ordered case block t (block l.number) ls → Moves block' x ls → Along x ls)
            → Along b (l ∷ ls)
        go true q e rest ih =
            let both = and-true (was_run case (block l.number)) (not (visible l.kind)) q in
            let later = ih b (omega (arith, ordered.0.from)) upto mine ordered.1 rest in
            let few = within_blocks_of_run case (block l.number) ordered.0.upto both.first in
            record {
              ordered = (
                record { from = omega (arith, e); upto = omega (arith, e); mine = λ h. ap (λ (x : ℕ). x % case.T) e ∙ mine (omega (arith, e)) },
                subst (λ (x : ℕ). Ordered case block' t x ls) (sym e) later.ordered,
              );
              kept = (
                record {
                  still_run = run_within_blocks case (block' l.number) (omega (arith, e, ordered.0.from)) ∙ sym both.first;
                  seen = λ v. absurd (true≢false (sym both.rest ∙ ap not v));
                },
                later.kept,
              );
            }
        go false q e rest ih =
            let later = ih (block l.number) (le_refl (block l.number)) ordered.0.upto ordered.0.mine ordered.1 rest in
            record {
              ordered = (
                record {
                  from = omega (arith, e, ordered.0.from);
                  upto = omega (arith, e, ordered.0.upto);
                  mine = λ h. ap (λ (x : ℕ). x % case.T) e ∙ ordered.0.mine (omega (arith, e));
                },
                subst (λ (x : ℕ). Ordered case block' t x ls) (sym e) later.ordered,
              );
              kept = (record { still_run = ap (was_run case) e; seen = λ v. e }, later.kept);
            }

    -- Along a thread, from its first line on: the order, what stays, and the 8s.
    from_first : (ls : List Line) → Ordered case block t 0 ls → Moves block' (first_block ls) ls → Along 0 ls
    from_first [] ordered moves = record { ordered = tt; kept = tt }
    from_first (l ∷ ls) ordered moves =
        let b = block l.number in
        let all = along b b (l ∷ ls) (le_refl b) ordered.0.upto ordered.0.mine
        (record { from = le_refl b; upto = ordered.0.upto; mine = ordered.0.mine }, ordered.1) moves in
        record { ordered = ordered_weakened case block' t b 0 (l ∷ ls) (omega arith) all.ordered; kept = all.kept }

    stays_after : (before : Line) (earlier : List Line) (b : ℕ) (ls : List Line) → block' before.number ≡ b → AllLines (Kept block') ls → Moves block' b ls
        → Stays case block' (before ∷ earlier) ls
    stays_after before earlier b [] e kept moves = tt
    stays_after before earlier b (l ∷ ls) e kept moves = (
      (λ unseen was_run_lem. moves.0 ∙ goes (was_run case (block l.number)) (visible l.kind) (sym kept.0.still_run ∙ was_run_lem) unseen ∙ sym e),
      stays_after l (before ∷ earlier) (new_block b l) ls moves.0 kept.1 moves.1,
    )
      where
        goes : (q v : Bool) → q ≡ true → v ≡ false → cond (q && not v) b (block l.number) ≡ b
        goes q v run unseen = rw (run, unseen)

    stays : (ls : List Line) → AllLines (Kept block') ls → Moves block' (first_block ls) ls → Stays case block' [] ls
    stays [] kept moves = tt
    stays (l ∷ ls) kept moves = (tt, stays_after l [] (new_block (block l.number) l) ls moves.0 kept.1 moves.1)

-- ---- Invisible lines name locals alone, and what has an item as target is visible.
data LocalOrNone (name : ℕ) : Type 0 where
  a_local : name < local_count → LocalOrNone name
  is_no_name : name ≡ no_name → LocalOrNone name

local_names : (x : ℕ) → LocalOrNone (local_name x)
unfolding local_name
local_names x = go (lt_view x local_count)
  where
    go : LtView x local_count → LocalOrNone (cond (ltb x local_count) x no_name)
    go (below h q) = rw q (a_local h)
    go (above h q) = rw q (is_no_name refl)

either : (q : Bool) (x y : ℕ) → LocalOrNone x → LocalOrNone y → LocalOrNone (cond q x y)
either true x y h g = h
either false x y h g = g

guard_names : (l : Line) → LocalOrNone (guard_name l)
unfolding guard_name
guard_names l =
    either (eqb l.guard 0) _ _ (is_no_name refl) (either (ltb l.guard 17) _ _ (local_names (l.guard - 1)) (local_names (l.guard - 17)))

b_names : (kind : Kind) (op b : ℕ) → LocalOrNone (name_of_b kind op b)
unfolding name_of_b
b_names kind op b = either (has_expression kind && nonzero op) _ _ (local_names b) (is_no_name refl)

a_names : (kind : Kind) (a : ℕ) → visible kind ≡ false → LocalOrNone (name_of_a kind a)
unfolding name_of_a
a_names Compute a unseen = local_names a
a_names Store a unseen = local_names a
a_names Load a unseen = absurd (true≢false unseen)
a_names Input a unseen = is_no_name refl
a_names Assert a unseen = local_names a
a_names Assume a unseen = local_names a
a_names Lock a unseen = is_no_name refl
a_names Unlock a unseen = is_no_name refl

target_names : (G : ℕ) (kind : Kind) (target : ℕ) → visible kind ≡ false → LocalOrNone (name_of_target G kind target)
unfolding name_of_target
target_names G Compute target unseen = local_names target
target_names G Store target unseen = absurd (true≢false unseen)
target_names G Load target unseen = absurd (true≢false unseen)
target_names G Input target unseen = local_names target
target_names G Assert target unseen = is_no_name refl
target_names G Assume target unseen = is_no_name refl
target_names G Lock target unseen = absurd (true≢false unseen)
target_names G Unlock target unseen = absurd (true≢false unseen)

item_is_seen : (G name : ℕ) (l : Line) → target_name G l ≡ name → local_count ≤ name → name < no_name → visible l.kind ≡ true
item_is_seen G name l e low high = go (visible l.kind) refl
  where
    neither : LocalOrNone (target_name G l) → ⊥
    neither (a_local h) = omega (arith, e)
    neither (is_no_name h) = omega (arith, e)

    go : (q : Bool) → visible l.kind ≡ q → visible l.kind ≡ true
    go true v = v
    go false v = absurd (neither (target_names G l.kind l.target v))

-- ---- The assignment with the new block numbers.
module _ (case : Case) (wf : WellFormed case) (α : Assignment) (block' : ℕ → ℕ) where
  abbrev pub moved : Assignment
  moved = record { block = block'; value = α.value; block_value = α.block_value }

  before_stays : (i g : ℕ) → value_before case moved i g ≡ value_before case α i g
  unfolding value_before
  before_stays zero g = refl
  before_stays (suc i) g = refl

  -- A copy of an item has its block number still.
  copy_stays : (i name : ℕ) (earlier : List Line) → local_count ≤ name → name < no_name → AllLines (Kept case α.block block') earlier
      → (nonzero (latest case.G name earlier) && eqb (block' (latest case.G name earlier)) i)
      ≡ (nonzero (latest case.G name earlier) && eqb (α.block (latest case.G name earlier)) i)
  unfolding latest
  copy_stays i name [] low high kept = refl
  copy_stays i name (l ∷ earlier) low high kept = go (eq_view (target_name case.G l) name) (copy_stays i name earlier low high kept.1)
    where
      test : (ℕ → ℕ) → List Line → Bool
      test blocks ls = nonzero (latest case.G name ls) && eqb (blocks (latest case.G name ls)) i

      go : EqView (target_name case.G l) name → test block' earlier ≡ test α.block earlier → test block' (l ∷ earlier) ≡ test α.block (l ∷ earlier)
      go (same e q) ih = rw q (ap (λ (x : ℕ). nonzero l.number && eqb x i) (kept.0.seen (item_is_seen case.G name l e low high)))
      go (diff e q) ih = rw q ih

  item_stays : (i name : ℕ) (earlier : List Line) → local_count ≤ name → name < no_name → AllLines (Kept case α.block block') earlier
      → read_item case moved i (name - local_count) (latest case.G name earlier) ≡ read_item case α i (name - local_count) (latest case.G name earlier)
  unfolding read_item
  item_stays i name earlier low high kept =
      ap₂ (λ (q : Bool) (x : ℕ). cond q (α.value (latest case.G name earlier)) x) (copy_stays i name earlier low high kept) (before_stays i (name - local_count))

  -- A visible line reads what it read in its block, and an invisible one what it read in another block.
  name_stays : (i name : ℕ) (earlier : List Line) → AllLines (Kept case α.block block') earlier
      → read_after case moved i earlier name ≡ read_after case α i earlier name
  unfolding read_after read_name read_local
  name_stays i name earlier kept = go (lt_view name local_count) (lt_view (name - local_count) (item_count case))
    where
      go : LtView name local_count → LtView (name - local_count) (item_count case) → read_after case moved i earlier name ≡ read_after case α i earlier name
      go (below h q) _ = rw q
      go (above h q) (below h' q') = rw (q, q') (item_stays i name earlier h (omega (arith, wf.few_items)) kept)
      go (above h q) (above h' q') = rw (q, q')

  local_stays : (i j name : ℕ) (earlier : List Line) → LocalOrNone name → read_after case moved i earlier name ≡ read_after case α j earlier name
  unfolding read_after read_name read_local
  local_stays i j name earlier (a_local h) = go (lt_view name local_count)
    where
      go : LtView name local_count → read_after case moved i earlier name ≡ read_after case α j earlier name
      go (below less q) = rw q
      go (above more q) = absurd (omega arith)
  local_stays i j name earlier (is_no_name h) =
      let copy = latest case.G name earlier in
      let past : local_count + item_count case ≤ name = omega (arith, h, wf.few_items) in
      read_name_no_name case moved i name copy past ∙ sym (read_name_no_name case α j name copy past)

  reads_stay : (earlier : List Line) (l : Line) → AllLines (Kept case α.block block') earlier → Kept case α.block block' l
      → reads_after case moved earlier l ≡ reads_after case α earlier l
  reads_stay earlier l kept own = go (visible l.kind) refl
    where
      go : (q : Bool) → visible l.kind ≡ q → reads_after case moved earlier l ≡ reads_after case α earlier l
      go true v =
          ap (λ (f : ℕ → ℕ). reads_of case.G f l (α.value l.number))
          (fun_ext (λ name. ap (λ (i : ℕ). read_after case moved i earlier name) (own.seen v) ∙ name_stays (α.block l.number) name earlier kept))
      go false v = λ i. record {
        guard = local_stays (block' l.number) (α.block l.number) (guard_name l) earlier (guard_names l) i;
        a = local_stays (block' l.number) (α.block l.number) (operand_a l) earlier (a_names l.kind l.a v) i;
        b = local_stays (block' l.number) (α.block l.number) (operand_b l) earlier (b_names l.kind l.op l.b) i;
        target = local_stays (block' l.number) (α.block l.number) (target_name case.G l) earlier (target_names case.G l.kind l.target v) i;
        given = α.value l.number;
      }

  -- ---- So constraints 4 to 6, what violates and what is decoded stay.
  lines_stay : (earlier ls : List Line) → AllLines (Kept case α.block block') earlier → AllLines (Kept case α.block block') ls → LinesMet case α earlier ls
      → LinesMet case moved earlier ls
  lines_stay earlier [] before kept met = tt
  lines_stay earlier (l ∷ ls) before kept met =
      let run = kept.0.still_run in
      let reads = reads_stay earlier l before kept.0 in (
        record {
          value = rw (run, reads) met.0.value;
          demand = λ was_run_lem. rw reads (met.0.demand (sym run ∙ was_run_lem));
        },
        lines_stay (l ∷ earlier) ls (kept.0, before) kept.1 met.1,
      )

  breaks_stay : (asked : Line → Bool) (earlier ls : List Line) → AllLines (Kept case α.block block') earlier → AllLines (Kept case α.block block') ls
      → breaks_in case moved asked earlier ls ≡ breaks_in case α asked earlier ls
  breaks_stay asked earlier [] before kept = refl
  breaks_stay asked earlier (l ∷ ls) before kept =
      ap₂ (λ (x y : ℕ). x + y)
      (ap₂ (λ (q : Bool) (reads : Reads). bit (asked l && breaks q l.kind l reads (α.value l.number))) kept.0.still_run (reads_stay earlier l before kept.0))
      (breaks_stay asked (l ∷ earlier) ls (kept.0, before) kept.1)

  values_stay : (earlier ls : List Line) → AllLines (Kept case α.block block') earlier → AllLines (Kept case α.block block') ls
      → decoded_values case moved earlier ls ≡ decoded_values case α earlier ls
  unfolding decoded_values
  values_stay earlier [] before kept = refl
  values_stay earlier (l ∷ ls) before kept = rw (kept.0.still_run, reads_stay earlier l before kept.0, values_stay (l ∷ earlier) ls (kept.0, before) kept.1)

  all_values_stay : (threads : List (List Line)) → AllThreads (Kept case α.block block') threads
      → all_decoded_values case moved threads ≡ all_decoded_values case α threads
  unfolding all_decoded_values
  all_values_stay [] kept = refl
  all_values_stay (ls ∷ threads) kept = rw (values_stay [] ls tt kept.0, all_values_stay threads kept.1)

  walk_stays : (i g : ℕ) (ls : List Line) → g < item_count case → AllLines (Kept case α.block block') ls → walk_back case moved i g ls ≡ walk_back case α i g ls
  unfolding walk_back
  walk_stays i g [] few kept = before_stays i g
  walk_stays i g (l ∷ ls) few kept = go (eq_view (target_name case.G l) (item_name g)) (walk_stays i g ls few kept.1)
    where
      go : EqView (target_name case.G l) (item_name g) → walk_back case moved i g ls ≡ walk_back case α i g ls → walk_back case moved i g (l ∷ ls) ≡ walk_back case α i g (l ∷ ls)
      go (same e q) ih = rw (q, kept.0.seen (item_is_seen case.G (item_name g) l e (omega arith) (omega (arith, wf.few_items))), ih)
      go (diff e q) ih = rw (q, ih)

kept_reversed : (P : Line → Type 0) (ls earlier : List Line) → AllLines P ls → AllLines P earlier → AllLines P (reverse_aux ls earlier)
kept_reversed P [] earlier kept before = before
kept_reversed P (l ∷ ls) earlier kept before = kept_reversed P ls (l ∷ earlier) kept.1 (kept.0, before)

-- ---- An assignment that meets constraints 1 to 6, with invisible lines moved.
module _ (case : Case) (wf : WellFormed case) (α : Assignment) (meets : Meets case α) where
  abbrev events : List Event
  events = all_new_events case α.block case.threads

  abbrev pub moved_block : ℕ → ℕ
  moved_block k = block_in k events

  abbrev pub moved_assignment : Assignment
  moved_assignment = moved case wf α moved_block

  moves : (t : ℕ) → Moves case α.block moved_block (first_block case α.block (lines_of case t)) (lines_of case t)
  moves t =
      all_moves case α.block (traced events) case.threads
      (traced_agrees_with events [] events refl (λ k. omega (arith, wf.once k, sum_of_all_new case α.block (has_number k) case.threads))) t

  along_thread : (t : ℕ) → t < case.T → Along case α.block moved_block t 0 (lines_of case t)
  along_thread t few = from_first case α.block moved_block t (lines_of case t) (meets.order t few) (moves t)

  pub moved_stays : AllStay case moved_assignment
  moved_stays t few = stays case α.block moved_block t (lines_of case t) (along_thread t few).kept (moves t)

  pub moved_meets : Meets case moved_assignment
  moved_meets = record {
    order = λ t few. (along_thread t few).ordered;
    lines = λ t few. lines_stay case wf α moved_block [] (lines_of case t) tt (along_thread t few).kept (meets.lines t few);
    blocks = λ i few g some.
        let t = i % case.T in
        let kept = (along_thread t (mod-lt i wf.some_thread)).kept in
        meets.blocks i few g some
        ∙ sym (walk_stays case wf α moved_block i g (reverse (lines_of case t)) some (kept_reversed (Kept case α.block moved_block) (lines_of case t) [] kept tt));
  }

  pub moved_breaks : (asked : Line → Bool) → break_count case moved_assignment asked ≡ break_count case α asked
  moved_breaks asked =
      sum_below_same (λ t. breaks_in case moved_assignment asked [] (lines_of case t)) (λ t. breaks_in case α asked [] (lines_of case t)) case.T
      (λ t few. breaks_stay case wf α moved_block asked [] (lines_of case t) tt (along_thread t few).kept)

  pub moved_values : all_decoded_values case moved_assignment case.threads ≡ all_decoded_values case α case.threads
  moved_values =
      all_values_stay case wf α moved_block case.threads
      (all_threads_lem (Kept case α.block moved_block) case.threads (λ t few. (along_thread t (omega (arith, wf.thread_count_lem))).kept))
