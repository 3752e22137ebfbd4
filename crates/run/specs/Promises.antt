-- What the blocks of a run ask and promise, in terms of the machine.
-- Assumes nothing.
use Rattle.std.specs.Prelude.{◌≡◌, ℕ, ◌%◌, ◌≤◌, ◌<◌, cond, Option, List, [], eqb, get_or, length, set}
use Rattle.model.specs.Lists.{unless_0}
use Rattle.model.specs.Limits.{most_threads, most_blocks, most_items, most_variables}
use Rattle.model.specs.CaseFile.{Line, records, thread_count, case_of}
use Rattle.model.specs.Machine.{State, start, Outcome, refused14, cut_off, violated, clean, first_stray_left, run_blocks, run}
use Rattle.model.specs.Fill.{put_items, put_blocks, put_all_unrun}
use Rattle.model.specs.Answers.{answer_of_run}
use Rattle.turn.specs.declared.Stand.{Stand}
use Rattle.turn.specs.declared.Stand.TheVariants.{Running, Strayed, Stopped}
use Rattle.turn.specs.declared.Turn.{Turn}
use Rattle.turn.specs.TurnState.{items_of, given_by}
use Rattle.turn.specs.Promises.{BlockRan, trace_after}
use Rattle.run.specs.declared.Thread.{Thread}
use Rattle.run.specs.declared.Shared.{Shared}
use Rattle.run.specs.declared.Moved.{Moved}
use Rattle.run.specs.declared.Ended.{Ended}
use Rattle.run.specs.RunState.{thread_at, turn_of, turn_at, rests_of, state_of}

-- Each record of the case is given a value, and a thread is at record k, or at its end where k is 0.
pub record RestReady (bytes givens : List ℕ) (k : ℕ) : Type 0 where
  pub all_given : records bytes < length givens
  pub within : k ≤ records bytes

-- Each record is given a value, and every thread is at a record or at its end.
pub record RunReady (bytes givens : List ℕ) (threads : List Thread) : Type 0 where
  pub all_given : records bytes < length givens
  pub within : (t : ℕ) → t < thread_count bytes → (thread_at threads t).next ≤ records bytes
  pub has_all : length threads ≡ most_threads

-- The same, and there is a block i.
pub record RunAtBlock (bytes lengths givens : List ℕ) (threads : List Thread) (i : ℕ) : Type 0 where
  pub ready : RunReady bytes givens threads
  pub is_block : i < length lengths

-- The same for a block's thread.
pub record BlockReady (bytes lengths givens : List ℕ) (thread : Thread) (i : ℕ) : Type 0 where
  pub all_given : records bytes < length givens
  pub within : thread.next ≤ records bytes
  pub is_block : i < length lengths

-- So many items, and where their places start.
pub record ItemsReady (count from : ℕ) : Type 0 where
  pub few : count ≤ most_items
  pub low : from ≤ most_variables

-- The trace of block i, of thread t, with so many steps, where a case can have a block i and the run still goes on: the numbers of its
-- lines and the items where it ends.
abbrev pub BlockTraced : List ℕ → List ℕ → ℕ → ℕ → ℕ → Turn → Turn → List ℕ → List ℕ → Type 0
BlockTraced bytes givens t i steps turn after trace trace' = i < most_blocks → after.stand ≡ Running
    → trace' ≡ put_items (case_of bytes) i (items_of bytes after.items) (trace_after bytes givens t i steps turn trace)

-- Block i, by its thread: the turn has run it.
pub record MovedBy (bytes givens lengths : List ℕ) (i : ℕ) (thread : Thread) (shared : Shared) (trace : List ℕ) (r : Moved) (trace' : List ℕ) : Type 0 where
  pub ran : BlockRan bytes givens (i % thread_count bytes) (get_or lengths i 0) (turn_of thread shared) (turn_of r.thread r.shared)
  pub traced : BlockTraced bytes givens (i % thread_count bytes) i (get_or lengths i 0) (turn_of thread shared) (turn_of r.thread r.shared) trace trace'

-- Block i: its thread and what is shared have run it, and no other thread moves.
pub record BlockAt (bytes givens lengths : List ℕ) (i : ℕ) (threads : List Thread) (shared : Shared) (trace : List ℕ)
    (after : List Thread) (last : Shared) (trace' : List ℕ) : Type 0 where
  pub ran : BlockRan bytes givens (i % thread_count bytes) (get_or lengths i 0) (turn_at threads (i % thread_count bytes) shared) (turn_at after (i % thread_count bytes) last)
  pub others : after ≡ set threads (i % thread_count bytes) (thread_at after (i % thread_count bytes))
  pub traced : BlockTraced bytes givens (i % thread_count bytes) i (get_or lengths i 0) (turn_at threads (i % thread_count bytes) shared) (turn_at after (i % thread_count bytes) last) trace trace'

-- The outcome of the blocks that follow, unless the run has ended.
abbrev pub resumed : Stand → List ℕ → Outcome → Outcome
resumed Running items next = next
resumed (Strayed k) items next = refused14 k
resumed (Stopped k) items next = cut_off k items

-- What a run comes to from here, with the blocks from i on.
abbrev pub outcome_from : List ℕ → List ℕ → ℕ → List ℕ → List Thread → Shared → Outcome
outcome_from bytes givens i lengths threads shared =
    resumed shared.stand (items_of bytes shared.items)
    (run_blocks (case_of bytes) (given_by givens) i lengths (state_of bytes threads shared.items) shared.note)

-- The blocks with these lengths have been run, and no block is left; their trace, where a case can have as many.
pub record Played (bytes givens lengths : List ℕ) (threads : List Thread) (shared : Shared) (trace : List ℕ)
    (after : List Thread) (last : Shared) (trace' : List ℕ) : Type 0 where
  pub comes : outcome_from bytes givens 0 [] after last ≡ outcome_from bytes givens 0 lengths threads shared
  pub ready : RunReady bytes givens after
  pub traced : length lengths ≤ most_blocks → last.stand ≡ Running
      → trace' ≡ put_blocks (case_of bytes) (given_by givens) 0 lengths (state_of bytes threads shared.items) trace

-- How a run stands after its last step, where this is the first record that strays among the lines that are left, or 0.
abbrev pub stand_after : ℕ → Stand → Stand
stand_after stray Running = cond (eqb stray 0) Running (Strayed stray)
stand_after stray (Strayed k) = Strayed k
stand_after stray (Stopped k) = Stopped k

abbrev pub looked_at : ℕ → Shared → Shared
looked_at stray shared = record { items = shared.items; stand = stand_after stray shared.stand; note = shared.note }

-- The lines that the threads have left have been looked at: the first record that strays among them, and their numbers in the trace.
pub record LeftSeen (bytes givens : List ℕ) (threads : List Thread) (trace : List ℕ) (r : Option ℕ) (trace' : List ℕ) : Type 0 where
  pub found : r ≡ unless_0 (first_stray_left (given_by givens) (rests_of bytes threads))
  pub put : trace' ≡ put_all_unrun (case_of bytes) (rests_of bytes threads) trace

-- The same after the last step of a run, if it still goes on.
pub record LeftLooked (bytes givens : List ℕ) (threads : List Thread) (shared : Shared) (trace : List ℕ) (r : Shared) (trace' : List ℕ) : Type 0 where
  pub looks : r ≡ looked_at (first_stray_left (given_by givens) (rests_of bytes threads)) shared
  pub put : shared.stand ≡ Running → trace' ≡ put_all_unrun (case_of bytes) (rests_of bytes threads) trace

-- What a run has come to, when the lines that are left have been looked at.
abbrev pub outcome_of : List ℕ → List Thread → Shared → Outcome
outcome_of bytes threads shared =
    let s = state_of bytes threads shared.items in
    resumed shared.stand (items_of bytes shared.items) (cond (eqb shared.note 0) (clean s) (violated shared.note s))

-- The items at the end of a run with this outcome.
abbrev pub EndItems : List ℕ → Outcome → List ℕ → Type 0
EndItems bytes (refused14 k) items = Unit {0}
EndItems bytes (cut_off k left) items = items_of bytes items ≡ left
EndItems bytes (violated k s) items = items_of bytes items ≡ s.items
EndItems bytes (clean s) items = items_of bytes items ≡ s.items

-- A run that came to this outcome: the reply, and the items.
pub record Replies (bytes : List ℕ) (outcome : Outcome) (e : Ended) : Type 0 where
  pub reply : e.reply ≡ answer_of_run outcome
  pub left : EndItems bytes outcome e.items

-- What holds of the lines that a run leaves which comes to its last block's end.
abbrev pub AtTheEnd : Outcome → (List (List Line) → Type 0) → Type 0
AtTheEnd (refused14 k) holds = Unit {0}
AtTheEnd (cut_off k items) holds = Unit {0}
AtTheEnd (violated k s) holds = holds s.rests
AtTheEnd (clean s) holds = holds s.rests

-- The trace of a run in blocks with these lengths from a state on, which leaves these lines.
abbrev pub whole_trace : List ℕ → List ℕ → List ℕ → State → List ℕ → List (List Line) → List ℕ
whole_trace bytes givens lengths s trace left = put_all_unrun (case_of bytes) left (put_blocks (case_of bytes) (given_by givens) 0 lengths s trace)

-- The run of a case in blocks with these lengths: its reply, and its trace, where a case can have as many blocks.
pub record Traced (bytes givens lengths trace : List ℕ) (e : Ended) (trace' : List ℕ) : Type 0 where
  pub replies : Replies bytes (run (case_of bytes) lengths (given_by givens)) e
  pub traced : length lengths ≤ most_blocks
      → AtTheEnd (run (case_of bytes) lengths (given_by givens)) (λ left. trace' ≡ whole_trace bytes givens lengths (start (case_of bytes)) trace left)
