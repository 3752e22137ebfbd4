-- What a line, a step and a block ask and promise, in terms of the machine.
-- Assumes nothing.
use Rattle.std.specs.Prelude.{◌≡◌, ℕ, ◌≤◌, ◌<◌, Bool, true, cond, List, eqb, length, drop}
use Rattle.model.specs.CaseFile.{Line, records, thread_count, case_of}
use Rattle.model.specs.Line.{Reads, no_name, target_name, guard_true, value_of, stops, breaks, stray_input}
use Rattle.model.specs.Machine.{Memory, BlockEnd, strayed, stopped, passed, run_block}
use Rattle.model.specs.Runs.{block_steps}
use Rattle.model.specs.Fill.{put_record, put_steps}
use Rattle.turn.specs.declared.Effect.{Effect}
use Rattle.turn.specs.declared.Effect.TheVariants.{Strays, Stops, Writes}
use Rattle.turn.specs.declared.Stand.{Stand}
use Rattle.turn.specs.declared.Stand.TheVariants.{Running, Strayed, Stopped}
use Rattle.turn.specs.declared.Turn.{Turn}
use Rattle.turn.specs.TurnState.{items_of, memory_of, lines_left, given_by}

-- Each record of the case is given a value, and the turn of its thread t is at one of them or at the thread's end.
pub record Ready (bytes givens : List ℕ) (t : ℕ) (turn : Turn) : Type 0 where
  pub thread : t < thread_count bytes
  pub all_given : records bytes < length givens
  pub within : turn.next ≤ records bytes

-- How the lines that have just run end, where the run then stands so.
abbrev pub end_by : List ℕ → Stand → Turn → BlockEnd
end_by bytes Running turn = passed (memory_of bytes turn) turn.note
end_by bytes (Strayed k) turn = strayed k
end_by bytes (Stopped k) turn = stopped k (items_of bytes turn.items)

abbrev pub end_of : List ℕ → Turn → BlockEnd
end_of bytes turn = end_by bytes turn.stand turn

-- The steps that follow, unless the run has ended.
abbrev pub continued : BlockEnd → (Memory → ℕ → BlockEnd) → BlockEnd
continued (strayed k) next = strayed k
continued (stopped k items) next = stopped k items
continued (passed m note) next = next m note

-- What a line with these reads does, in a case with G globals: where its guard is false, it writes 0 to no name.
abbrev pub effect_of : ℕ → Line → Reads → Effect
effect_of G l reads =
    cond (stray_input l.kind l reads) Strays
    (cond (stops l.kind l reads) Stops
    (Writes (cond (guard_true l reads) (target_name G l) no_name) (cond (guard_true l reads) (value_of l reads) 0) (breaks true l.kind l reads (value_of l reads))))

abbrev pub Effective : ℕ → Line → Reads → Effect → Type 0
Effective G l reads e = e ≡ effect_of G l reads

-- The same, where the line's guard is so.
abbrev pub Does : Bool → ℕ → Line → Reads → Effect → Type 0
Does on G l reads e = guard_true l reads ≡ on → Effective G l reads e

-- The block number and the value of a line with these reads, record k, go to the trace, if `value` is its value where its guard is true.
abbrev pub LineTraced : ℕ → ℕ → Line → Reads → ℕ → List ℕ → List ℕ → Type 0
LineTraced k block l reads value trace trace' = (guard_true l reads ≡ true → value ≡ value_of l reads) → trace' ≡ put_record k block (value_of l reads) trace

-- A turn whose thread has gone on to its next record, after line k.
abbrev pub gone_on : Turn → ℕ → ℕ → Bool → Turn
gone_on turn next k broken = record {
  next = next;
  locals = turn.locals;
  items = turn.items;
  stand = turn.stand;
  note = cond (eqb turn.note 0) (cond broken k 0) turn.note;
}

-- The end of a turn of thread t with so many steps.
abbrev pub end_after : List ℕ → List ℕ → ℕ → ℕ → Turn → BlockEnd
end_after bytes givens t steps turn = continued (end_of bytes turn) (run_block (case_of bytes) (given_by givens) steps (lines_left bytes t turn))

-- A block of thread t with so many steps; nothing moves where the run has ended.
pub record BlockRan (bytes givens : List ℕ) (t steps : ℕ) (turn after : Turn) : Type 0 where
  pub does : end_after bytes givens t steps turn ≡ end_of bytes after
  pub moves : after.stand ≡ Running → lines_left bytes t after ≡ drop steps (lines_left bytes t turn)
  pub within : after.next ≤ records bytes

-- The trace after a block i of thread t with so many steps: each of them has put the numbers of its line there.
abbrev pub trace_after : List ℕ → List ℕ → ℕ → ℕ → ℕ → Turn → List ℕ → List ℕ
trace_after bytes givens t i steps turn trace =
    put_steps (case_of bytes) (given_by givens) (block_steps (case_of bytes) (given_by givens) i steps (lines_left bytes t turn) (memory_of bytes turn)) trace

-- Such a block, and its trace where the run still goes on.
pub record BlockRecorded (bytes givens : List ℕ) (t i steps : ℕ) (turn after : Turn) (trace trace' : List ℕ) : Type 0 where
  pub ran : BlockRan bytes givens t steps turn after
  pub traced : after.stand ≡ Running → trace' ≡ trace_after bytes givens t i steps turn trace
