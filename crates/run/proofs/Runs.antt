-- The loop of all blocks: after some of them, the blocks that are left decide.
-- Assumes nothing.
use mathlib.Core.Path.{◌≡◌, refl, sym, ap, ap₂, ◌∙◌, subst}
use Prim.Native.Nat.{ℕ, zero, suc, ◌+◌, ◌%◌, ◌≤◌, ◌<◌}
use mathlib.Core.List.{List, [], ◌∷◌}
use native.Mathlib.Omega.{arith}
use native.Mathlib.Nat.{mod-lt, add-zero, zero-add}
use native.Mathlib.Numerals.{add-one}
use lib.ListN.{get_or, set, length, drop, length-set, drop_of_length-le}
use lib.Seq.{drop-cons, get_or-set_same, get_or-set_other}
use Rattle.model.specs.Limits.{most_blocks}
use Rattle.model.specs.CaseFile.{Line, records, thread_count, case_of}
use Rattle.model.specs.Machine.{Memory, State, BlockEnd, passed, run_block, rest_in, memory_in, after_block, Outcome, after_steps, run_blocks}
use Rattle.model.specs.Runs.{block_steps, memory_after, end_memory, next_state}
use Rattle.model.specs.Fill.{put_steps, put_items, put_blocks}
use Rattle.laws.specs.Accepted.{Accepted, lines_from}
use Rattle.laws.proofs.Views.{EqView, same, diff, eq_view}
use Rattle.laws.proofs.Passing.{passed_memory}
use Rattle.turn.specs.declared.Stand.{Stand}
use Rattle.turn.specs.declared.Stand.TheVariants.{Running, Strayed, Stopped}
use Rattle.turn.specs.TurnState.{items_of, memory_of, given_by}
use Rattle.turn.specs.declared.Turn.{Turn}
use Rattle.turn.specs.Promises.{Ready, end_by, end_of, continued, BlockRan, trace_after, BlockRecorded}
use Rattle.run.specs.declared.Thread.{Thread}
use Rattle.run.specs.declared.Shared.{Shared}
use Rattle.run.specs.declared.Moved.{Moved}
use Rattle.run.specs.RunState.{none, thread_at, turn_of, turn_at, list_from, rest_at, state_of}
use Rattle.run.specs.Promises.{RunReady, BlockReady, BlockTraced, MovedBy, BlockAt, resumed, outcome_from, Played}

module _ {A : Type 0} where
  pub list_from_at : (f : ℕ → A) (i many j : ℕ) (d : A) → j < many → get_or (list_from f i many) j d ≡ f (i + j)
  unfolding list_from
  list_from_at f i zero j d h = absurd (omega arith)
  list_from_at f i (suc many) zero d h = ap f (sym (add-zero i))
  list_from_at f i (suc many) (suc j) d h = list_from_at f (suc i) many j d (omega arith) ∙ ap f (omega arith)

  pub list_from_same : (f g : ℕ → A) (i many : ℕ) → ((x : ℕ) → i ≤ x → x < i + many → g x ≡ f x) → list_from g i many ≡ list_from f i many
  unfolding list_from
  list_from_same f g i zero e = refl
  list_from_same f g i (suc many) e =
      ap₂ ◌∷◌ (e i (omega arith) (omega arith)) (list_from_same f g (suc i) many (λ x h h'. e x (omega arith) (omega arith)))

  pub list_from_set : (f g : ℕ → A) (i many j : ℕ) → j < many → ((x : ℕ) → (x ≡ i + j → ⊥) → g x ≡ f x)
      → list_from g i many ≡ set (list_from f i many) j (g (i + j))
  unfolding list_from
  list_from_set f g i zero j h e = absurd (omega arith)
  list_from_set f g i (suc many) zero h e =
      ap₂ ◌∷◌ (ap g (sym (add-zero i))) (list_from_same f g (suc i) many (λ x h' h''. e x (λ p. omega arith)))
  list_from_set f g i (suc many) (suc j) h e =
      ap₂ ◌∷◌ (e i (λ p. omega arith))
      (list_from_set f g (suc i) many j (omega arith) (λ x p. e x (λ q. p (omega arith)))
      ∙ ap (λ (x : ℕ). set (list_from f (suc i) many) j (g x)) (omega arith))

others_same : (t : ℕ) (threads after : List Thread) → after ≡ set threads t (thread_at after t) → (u : ℕ) → (u ≡ t → ⊥)
    → thread_at after u ≡ thread_at threads u
others_same t threads after others u other =
    ap (λ (x : List Thread). thread_at x u) others ∙ get_or-set_other threads t u (thread_at after t) none other

-- a run that still goes on did so before
was_running : (bytes : List ℕ) (stand : Stand) (turn : Turn) (next : Memory → ℕ → BlockEnd) (m : Memory) (note : ℕ)
    → continued (end_by bytes stand turn) next ≡ passed m note → stand ≡ Running
was_running bytes Running turn next m note e = refl
was_running bytes (Strayed k) turn next m note e = absurd (let z : ◌≡◌ {A = ℕ} 0 1 = cc in omega arith)
was_running bytes (Stopped k) turn next m note e = absurd (let z : ◌≡◌ {A = ℕ} 0 1 = cc in omega arith)

module _ (bytes givens lengths : List ℕ) (i : ℕ) (threads : List Thread) (shared : Shared) (trace : List ℕ) (after : List Thread) (last : Shared)
    (trace' : List ℕ) (some : 0 < thread_count bytes) (b : BlockAt bytes givens lengths i threads shared trace after last trace')
  where
    abbrev steps : ℕ
    steps = get_or lengths i 0

    abbrev t : ℕ
    t = i % thread_count bytes

    abbrev case_state_lem : State
    case_state_lem = state_of bytes threads shared.items

    inside : t < thread_count bytes
    inside = mod-lt i some

    at_thread : {A : Type 0} (f : ℕ → A) (d : A) → get_or (list_from f 0 (thread_count bytes)) t d ≡ f t
    at_thread f d = list_from_at f 0 (thread_count bytes) t d inside ∙ ap f (zero-add t)

    rest_in_lem : rest_in (case_of bytes) i case_state_lem ≡ rest_at bytes threads t
    rest_in_lem = at_thread (rest_at bytes threads) []

    memory_in_lem : memory_in (case_of bytes) i case_state_lem ≡ memory_of bytes (turn_at threads t shared)
    memory_in_lem = λ j. record { locals = at_thread (λ u. (thread_at threads u).locals) [] j; items = items_of bytes shared.items }

    changed : {A : Type 0} (f g : ℕ → A) (x : A) → ((u : ℕ) → (u ≡ t → ⊥) → g u ≡ f u) → g t ≡ x
        → list_from g 0 (thread_count bytes) ≡ set (list_from f 0 (thread_count bytes)) t x
    changed f g x others e =
        list_from_set f g 0 (thread_count bytes) t inside (λ u p. others u (λ q. p (q ∙ sym (zero-add t))))
        ∙ ap (λ x'. set (list_from f 0 (thread_count bytes)) t x') (ap g (zero-add t) ∙ e)

    state_after : last.stand ≡ Running
        → after_block (case_of bytes) i steps case_state_lem (memory_of bytes (turn_at after t last)) ≡ state_of bytes after last.items
    state_after ran =
        let kept = others_same t threads after b.others in
        λ j. record {
          rests = sym (changed (rest_at bytes threads) (rest_at bytes after) (drop steps (rest_in (case_of bytes) i case_state_lem))
              (λ u other. ap (λ (x : Thread). lines_from bytes u x.next) (kept u other))
              (b.ran.moves ran ∙ ap (drop steps) (sym rest_in_lem))) j;
          locals = sym (changed (λ u. (thread_at threads u).locals) (λ u. (thread_at after u).locals) (thread_at after t).locals
              (λ u other. ap (λ (x : Thread). x.locals) (kept u other)) refl) j;
          items = items_of bytes last.items;
        }

    abbrev next : List ℕ → Memory → ℕ → Outcome
    next later m note =
        run_blocks (case_of bytes) (given_by givens) (suc i) later (after_block (case_of bytes) i steps case_state_lem m) note

    -- the blocks after this one, from the turn that this block leaves
    goes_on : (later : List ℕ) → after_steps (end_of bytes (turn_at after t last)) (next later) ≡ outcome_from bytes givens (suc i) later after last
    goes_on later = go last.stand state_after
      where
        go : (stand : Stand) → (stand ≡ Running → after_block (case_of bytes) i steps case_state_lem (memory_of bytes (turn_at after t last)) ≡ state_of bytes after last.items)
            → after_steps (end_by bytes stand (turn_at after t last)) (next later)
            ≡ resumed stand (items_of bytes last.items) (run_blocks (case_of bytes) (given_by givens) (suc i) later (state_of bytes after last.items) last.note)
        go Running e = ap (λ (x : State). run_blocks (case_of bytes) (given_by givens) (suc i) later x last.note) (e refl)
        go (Strayed k) e = refl
        go (Stopped k) e = refl

    abbrev block : Memory → ℕ → BlockEnd
    block = run_block (case_of bytes) (given_by givens) steps (rest_at bytes threads t)

    block_next : (later : List ℕ) → outcome_from bytes givens i (steps ∷ later) threads shared ≡ outcome_from bytes givens (suc i) later after last
    unfolding run_blocks
    block_next later = go shared.stand b.ran.does ∙ goes_on later
      where
        go : (stand : Stand) → continued (end_by bytes stand (turn_at threads t shared)) block ≡ end_of bytes (turn_at after t last)
            → resumed stand (items_of bytes shared.items) (run_blocks (case_of bytes) (given_by givens) i (steps ∷ later) case_state_lem shared.note)
            ≡ after_steps (end_of bytes (turn_at after t last)) (next later)
        go Running e =
            ap (λ (x : BlockEnd). after_steps x (next later))
            (ap₂ (λ (x : List Line) (y : Memory). run_block (case_of bytes) (given_by givens) steps x y shared.note) rest_in_lem memory_in_lem ∙ e)
        go (Strayed k) e = ap (λ (x : BlockEnd). after_steps x (next later)) e
        go (Stopped k) e = ap (λ (x : BlockEnd). after_steps x (next later)) e

    -- the run still goes on
    module _ (runs : last.stand ≡ Running) where
      passes : continued (end_of bytes (turn_at threads t shared)) block ≡ passed (memory_of bytes (turn_at after t last)) last.note
      passes = b.ran.does ∙ ap (λ (x : Stand). end_by bytes x (turn_at after t last)) runs

      runs_before : shared.stand ≡ Running
      runs_before = was_running bytes shared.stand (turn_at threads t shared) block _ _ passes

      memory_after_lem : memory_of bytes (turn_at after t last) ≡ end_memory (case_of bytes) (given_by givens) i steps case_state_lem
      memory_after_lem =
          passed_memory (case_of bytes) (given_by givens) steps (rest_at bytes threads t) (memory_of bytes (turn_at threads t shared)) shared.note _ last.note
          (sym (ap (λ (x : Stand). continued (end_by bytes x (turn_at threads t shared)) block) runs_before) ∙ passes)
          ∙ sym (ap₂ (memory_after (case_of bytes) (given_by givens) steps) rest_in_lem memory_in_lem)

      state_next : state_of bytes after last.items ≡ next_state (case_of bytes) (given_by givens) i steps case_state_lem
      state_next = sym (state_after runs) ∙ ap (after_block (case_of bytes) i steps case_state_lem) memory_after_lem

      trace_next : i < most_blocks → (later : List ℕ)
          → put_blocks (case_of bytes) (given_by givens) (suc i) later (state_of bytes after last.items) trace'
          ≡ put_blocks (case_of bytes) (given_by givens) i (steps ∷ later) case_state_lem trace
      trace_next word later =
          ap₂ (put_blocks (case_of bytes) (given_by givens) (suc i) later) state_next
          (b.traced word runs
          ∙ ap₂ (put_items (case_of bytes) i) (ap (λ (x : State). x.items) state_next)
          (ap₂ (λ (x : List Line) (y : Memory). put_steps (case_of bytes) (given_by givens) (block_steps (case_of bytes) (given_by givens) i steps x y) trace) (sym rest_in_lem) (sym memory_in_lem)))

    ready_after : RunReady bytes givens threads → RunReady bytes givens after
    ready_after ready = record {
      all_given = ready.all_given;
      within = λ u h. go u h (eq_view u t);
      has_all = ap length b.others ∙ length-set threads t (thread_at after t) ∙ ready.has_all;
    }
      where
        go : (u : ℕ) → u < thread_count bytes → EqView u t → (thread_at after u).next ≤ records bytes
        go u h (same e q) = rw e b.ran.within
        go u h (diff e q) = omega (arith, ap (λ (x : Thread). x.next) (others_same t threads after b.others u e), ready.within u h)

-- After some of the blocks.
pub record Playing (bytes givens lengths : List ℕ) (threads₀ : List Thread) (shared₀ : Shared) (trace₀ : List ℕ) (i : ℕ)
    (threads : List Thread) (shared : Shared) (trace : List ℕ) : Type 0 where
  pub does : outcome_from bytes givens i (drop i lengths) threads shared ≡ outcome_from bytes givens 0 lengths threads₀ shared₀
  pub ready : RunReady bytes givens threads
  pub traced : length lengths ≤ most_blocks → shared.stand ≡ Running
      → put_blocks (case_of bytes) (given_by givens) i (drop i lengths) (state_of bytes threads shared.items) trace
      ≡ put_blocks (case_of bytes) (given_by givens) 0 lengths (state_of bytes threads₀ shared₀.items) trace₀

module _ (bytes givens lengths : List ℕ) (threads₀ : List Thread) (shared₀ : Shared) (trace₀ : List ℕ) where
  pub playing_start : RunReady bytes givens threads₀ → Playing bytes givens lengths threads₀ shared₀ trace₀ 0 threads₀ shared₀ trace₀
  playing_start ready = record { does = refl; ready = ready; traced = λ _ _. refl }

  module _ (i : ℕ) (threads : List Thread) (shared : Shared) (trace : List ℕ)
      (p : Playing bytes givens lengths threads₀ shared₀ trace₀ i threads shared trace)
    where
      pub playing_on : Accepted bytes → (after : List Thread) (last : Shared) (trace' : List ℕ) → i < length lengths
          → BlockAt bytes givens lengths i threads shared trace after last trace'
          → Playing bytes givens lengths threads₀ shared₀ trace₀ (i + 1) after last trace'
      playing_on ok after last trace' more b =
          let some : 0 < thread_count bytes = omega (arith, ok.some_threads) in
          record {
            does = rw (add-one i)
                (sym (block_next bytes givens lengths i threads shared trace after last trace' some b (drop (suc i) lengths))
                ∙ ap (λ (x : List ℕ). outcome_from bytes givens i x threads shared) (sym (drop-cons lengths i 0 more))
                ∙ p.does);
            ready = ready_after bytes givens lengths i threads shared trace after last trace' some b p.ready;
            traced = λ numbered runs. rw (add-one i)
                (trace_next bytes givens lengths i threads shared trace after last trace' some b runs (omega arith) (drop (suc i) lengths)
                ∙ ap (λ (x : List ℕ). put_blocks (case_of bytes) (given_by givens) i x (state_of bytes threads shared.items) trace) (sym (drop-cons lengths i 0 more))
                ∙ p.traced numbered (runs_before bytes givens lengths i threads shared trace after last trace' some b runs));
          }

      pub playing_end : length lengths ≤ i → Played bytes givens lengths threads₀ shared₀ trace₀ threads shared trace
      unfolding run_blocks
      playing_end over =
          let none = sym (drop_of_length-le lengths over) in
          record {
            comes = ap (λ (x : List ℕ). outcome_from bytes givens i x threads shared) none ∙ p.does;
            ready = p.ready;
            traced = λ numbered runs.
                ap (λ (x : List ℕ). put_blocks (case_of bytes) (given_by givens) i x (state_of bytes threads shared.items) trace) none ∙ p.traced numbered runs;
          }

-- Block i by its thread's turn.
module _ (bytes lengths givens : List ℕ) (thread : Thread) (shared : Shared) (i : ℕ) (turn : Turn) (is_turn : turn ≡ turn_of thread shared)
    (t : ℕ) (is_t : t ≡ i % thread_count bytes) where
  pub ready_turn : Accepted bytes → BlockReady bytes lengths givens thread i → Ready bytes givens t turn
  ready_turn ok ready = rw is_turn (record {
    thread = rw is_t (mod-lt i (omega (arith, ok.some_threads)));
    all_given = ready.all_given;
    within = ready.within;
  })

  pub moved_by : (number : ℕ) → (i < most_blocks → number ≡ i) → (trace between : List ℕ) (moved : Moved) (trace' : List ℕ)
      → BlockRecorded bytes givens t number (get_or lengths i 0) turn (turn_of moved.thread moved.shared) trace between
      → trace' ≡ put_items (case_of bytes) i (items_of bytes moved.shared.items) between → MovedBy bytes givens lengths i thread shared trace moved trace'
  moved_by number is_number trace between moved trace' recorded put =
      let traced : BlockTraced bytes givens t i (get_or lengths i 0) turn (turn_of moved.thread moved.shared) trace trace' =
      λ word runs. put ∙ ap (put_items (case_of bytes) i (items_of bytes moved.shared.items))
      (recorded.traced runs ∙ ap (λ (x : ℕ). trace_after bytes givens t x (get_or lengths i 0) turn trace) (is_number word)) in
      record { ran = rw (is_turn, is_t) at recorded.ran; traced = rw (is_turn, is_t) at traced }

-- the thread that is stored, as the list then has it
pub stored : (bytes givens lengths : List ℕ) (i : ℕ) (threads : List Thread) (shared : Shared) (trace : List ℕ) (r : Moved) (trace' : List ℕ)
    → i % thread_count bytes < length threads → MovedBy bytes givens lengths i (thread_at threads (i % thread_count bytes)) shared trace r trace'
    → BlockAt bytes givens lengths i threads shared trace (set threads (i % thread_count bytes) r.thread) r.shared trace'
stored bytes givens lengths i threads shared trace r trace' h moved =
    let t = i % thread_count bytes in
    let there = get_or-set_same threads t r.thread none h in
    record {
      ran = subst (λ (x : Thread). BlockRan bytes givens t (get_or lengths i 0) (turn_at threads t shared) (turn_of x r.shared)) (sym there) moved.ran;
      others = ap (set threads t) (sym there);
      traced = subst (λ (x : Thread). BlockTraced bytes givens t i (get_or lengths i 0) (turn_at threads t shared) (turn_of x r.shared) trace trace') (sym there) moved.traced;
    }
