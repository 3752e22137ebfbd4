-- The loop of a block: after some of its steps, what is left of it decides.
-- Assumes nothing.
use mathlib.Core.Path.{◌≡◌, refl, sym, ap, ap₂, ◌∙◌}
use mathlib.Core.Logic.{◌≢◌}
use Prim.Native.Nat.{ℕ, zero, suc, ◌≤◌}
use mathlib.Core.Bool.{Bool, true, false}
use mathlib.Core.List.{List, [], ◌∷◌}
use native.Mathlib.Omega.{arith}
use lib.ListN.{length, drop, length-set}
use Rattle.model.specs.CaseFile.{Line, records, next_record, line_of, case_of}
use Rattle.model.specs.Machine.{Memory, BlockEnd, passed, run_block}
use Rattle.model.specs.Runs.{Step, block_steps}
use Rattle.model.specs.Fill.{put_steps}
use Rattle.laws.specs.Accepted.{Accepted, lines_from}
use Rattle.laws.proofs.Chains.{lines_from_end}
use Rattle.turn.specs.declared.Stand.{Stand}
use Rattle.turn.specs.declared.Stand.TheVariants.{Running, Strayed, Stopped}
use Rattle.turn.specs.declared.Turn.{Turn}
use Rattle.turn.specs.TurnState.{memory_of, lines_left, given_by}
use Rattle.turn.specs.Promises.{end_by, end_of, continued, end_after, trace_after, BlockRecorded}
use Rattle.turn.proofs.Steps.{Stepped, StepTraced}

-- After some of the steps of block i, of thread t, with so many left: the run goes on.
pub record Stepping (bytes givens : List ℕ) (t i steps : ℕ) (turn₀ : Turn) (trace₀ : List ℕ) (left : ℕ) (turn : Turn) (trace : List ℕ) : Type 0 where
  pub does : end_after bytes givens t left turn ≡ end_after bytes givens t steps turn₀
  pub runs : turn.stand ≡ Running
  pub moves : drop left (lines_left bytes t turn) ≡ drop steps (lines_left bytes t turn₀)
  pub within : turn.next ≤ records bytes
  pub traced : trace_after bytes givens t i left turn trace ≡ trace_after bytes givens t i steps turn₀ trace₀
  pub size : length trace ≡ length trace₀

-- Whether the run goes on.
abbrev is_running : Stand → Bool
is_running Running = true
is_running (Strayed k) = false
is_running (Stopped k) = false

never_running : {P : Type 0} (stand : Stand) → is_running stand ≡ false → stand ≡ Running → P
never_running stand ended ran = absurd (let e : is_running Running ≡ false = rw ran at ended in let z : ◌≡◌ {A = ℕ} 0 1 = cc in omega arith)

-- where the run has ended, nothing follows
halts : (bytes : List ℕ) (stand : Stand) (turn : Turn) (next : Memory → ℕ → BlockEnd) → is_running stand ≡ false
    → continued (end_by bytes stand turn) next ≡ end_by bytes stand turn
halts bytes Running turn next e = absurd (let z : ◌≡◌ {A = ℕ} 0 1 = cc in omega arith)
halts bytes (Strayed k) turn next e = refl
halts bytes (Stopped k) turn next e = refl

goes : (bytes : List ℕ) (stand : Stand) (turn : Turn) (next : Memory → ℕ → BlockEnd) → stand ≡ Running
    → continued (end_by bytes stand turn) next ≡ next (memory_of bytes turn) turn.note
goes bytes stand turn next e = ap (λ (x : Stand). continued (end_by bytes x turn) next) e

passes : (bytes : List ℕ) (stand : Stand) (turn : Turn) (next : Memory → ℕ → BlockEnd)
    → ((m : Memory) (note : ℕ) → next m note ≡ passed m note) → continued (end_by bytes stand turn) next ≡ end_by bytes stand turn
passes bytes Running turn next e = e (memory_of bytes turn) turn.note
passes bytes (Strayed k) turn next e = refl
passes bytes (Stopped k) turn next e = refl

nothing_left : (bytes givens : List ℕ) (left : ℕ) (ls : List Line) → ls ≡ [] → (m : Memory) (note : ℕ)
    → run_block (case_of bytes) (given_by givens) left ls m note ≡ passed m note
unfolding run_block
nothing_left bytes givens zero ls e m note = refl
nothing_left bytes givens (suc n) ls e m note = rw e

drop_nothing : (n : ℕ) → ◌≡◌ {A = List Line} (drop n []) []
drop_nothing zero = refl
drop_nothing (suc n) = refl

no_steps : (bytes givens : List ℕ) (left : ℕ) (ls : List Line) → left ≤ 0 → (m : Memory) (note : ℕ)
    → run_block (case_of bytes) (given_by givens) left ls m note ≡ passed m note
unfolding run_block
no_steps bytes givens zero ls h m note = refl
no_steps bytes givens (suc n) ls h m note = absurd (omega arith)

-- and no step puts anything in the trace
nothing_traced : (bytes givens : List ℕ) (i left : ℕ) (ls : List Line) → ls ≡ [] → (m : Memory)
    → block_steps (case_of bytes) (given_by givens) i left ls m ≡ []
nothing_traced bytes givens i zero ls e m = refl
nothing_traced bytes givens i (suc n) ls e m = rw e

none_traced : (bytes givens : List ℕ) (i left : ℕ) (ls : List Line) → left ≤ 0 → (m : Memory)
    → block_steps (case_of bytes) (given_by givens) i left ls m ≡ []
none_traced bytes givens i zero ls h m = refl
none_traced bytes givens i (suc n) ls h m = absurd (omega arith)

drop_none : (n : ℕ) (ls : List Line) → n ≤ 0 → drop n ls ≡ ls
drop_none zero ls h = refl
drop_none (suc n) ls h = absurd (omega arith)

module _ (bytes givens : List ℕ) (t i steps : ℕ) (turn₀ : Turn) (trace₀ : List ℕ) where
  abbrev next : ℕ → List Line → Memory → ℕ → BlockEnd
  next = run_block (case_of bytes) (given_by givens)

  abbrev put : List Step → List ℕ → List ℕ
  put = put_steps (case_of bytes) (given_by givens)

  abbrev Recorded : Turn → List ℕ → Type 0
  Recorded after trace = BlockRecorded bytes givens t i steps turn₀ after trace₀ trace

  module _ {left : ℕ} {turn : Turn} {trace : List ℕ} (g : Stepping bytes givens t i steps turn₀ trace₀ left turn trace) where
    pub block_ends : left ≤ 0 → Recorded turn trace
    block_ends none =
        let rest = lines_left bytes t turn in
        record {
          ran = record {
            does = sym g.does ∙ passes bytes turn.stand turn (next left rest) (no_steps bytes givens left rest none);
            moves = λ _. sym (drop_none left rest none) ∙ g.moves;
            within = g.within;
          };
          traced = λ _. ap (λ (x : List Step). put x trace) (sym (none_traced bytes givens i left rest none (memory_of bytes turn))) ∙ g.traced;
        }

    pub thread_ends : turn.next ≡ 0 → Recorded turn trace
    thread_ends ended =
        let rest = lines_left bytes t turn in
        let none : rest ≡ [] = ap (lines_from bytes t) ended ∙ lines_from_end bytes t in
        record {
          ran = record {
            does = sym g.does ∙ passes bytes turn.stand turn (next left rest) (nothing_left bytes givens left rest none);
            moves = λ _. none ∙ sym (drop_nothing left) ∙ ap (drop left) (sym none) ∙ g.moves;
            within = g.within;
          };
          traced = λ _. ap (λ (x : List Step). put x trace) (sym (nothing_traced bytes givens i left rest none (memory_of bytes turn))) ∙ g.traced;
        }

    -- One line more.
    module _ (ok : Accepted bytes) {n : ℕ} (left_is : left ≡ suc n) (more : turn.next ≢ 0) (after : Turn) (s : Stepped bytes givens t turn after) where
      abbrev later : List Line
      later = lines_from bytes t (next_record bytes turn.next)

      rest_is : lines_left bytes t turn ≡ line_of bytes t turn.next ∷ later
      rest_is = ok.lines_go_on t turn.next (omega arith) g.within

      does_line : continued (end_of bytes after) (next n later) ≡ end_after bytes givens t steps turn₀
      does_line =
          sym (s n later)
          ∙ ap (λ (x : List Line). next (suc n) x (memory_of bytes turn) turn.note) (sym rest_is)
          ∙ ap (λ (x : ℕ). next x (lines_left bytes t turn) (memory_of bytes turn) turn.note) (sym left_is)
          ∙ sym (goes bytes turn.stand turn (next left (lines_left bytes t turn)) g.runs)
          ∙ g.does

      pub line_ends : is_running after.stand ≡ false → after.next ≤ records bytes → Recorded after trace
      line_ends ended low = record {
        ran = record {
          does = sym does_line ∙ halts bytes after.stand after (next n later) ended;
          moves = never_running after.stand ended;
          within = low;
        };
        traced = never_running after.stand ended;
      }

      module _ (trace' : List ℕ) (p : StepTraced bytes givens t i turn after trace trace') where
        traces_line : put (block_steps (case_of bytes) (given_by givens) i n later (memory_of bytes after)) trace' ≡ trace_after bytes givens t i steps turn₀ trace₀
        traces_line =
            ap₂ (λ (x : Memory) (y : List ℕ). put (block_steps (case_of bytes) (given_by givens) i n later x) y) (sym p.memory) p.record_put
            ∙ ap (λ (x : List Line). put (block_steps (case_of bytes) (given_by givens) i (suc n) x (memory_of bytes turn)) trace) (sym rest_is)
            ∙ ap (λ (x : ℕ). trace_after bytes givens t i x turn trace) (sym left_is)
            ∙ g.traced

        pub stepping_on : after.stand ≡ turn.stand → after.next ≡ next_record bytes turn.next
            → Stepping bytes givens t i steps turn₀ trace₀ n after trace'
        stepping_on runs moves = record {
          does = ap (λ (x : ℕ). continued (end_of bytes after) (next n (lines_from bytes t x))) moves ∙ does_line;
          runs = runs ∙ g.runs;
          moves = ap (λ (x : ℕ). drop n (lines_from bytes t x)) moves ∙ ap (drop (suc n)) (sym rest_is)
              ∙ ap (λ (x : ℕ). drop x (lines_left bytes t turn)) (sym left_is) ∙ g.moves;
          within = omega (arith, moves, ok.nexts turn.next (omega arith) g.within);
          traced = ap (λ (x : ℕ). put (block_steps (case_of bytes) (given_by givens) i n (lines_from bytes t x) (memory_of bytes after)) trace') moves ∙ traces_line;
          size = ap length p.record_put ∙ simp length-set g.size;
        }
