-- The trace of a run: what each line did, and the items where each block ends. It is defined for every schedule: a line that
-- would end the run is taken like any other, and lines that were not run are put at the end, so that each record has one event.
-- Assumes nothing.
use Rattle.std.specs.Prelude.{ℕ, suc, Bool, false, List, [], ◌∷◌, ◌++◌, map}
use Rattle.model.specs.CaseFile.{Line, Case}
use Rattle.model.specs.Line.{value_of, unrun_value}
use Rattle.model.specs.Machine.{Memory, State, rest_in, memory_in}
use Rattle.model.specs.Runs.{Step, block_steps, next_state, reads_at, broken}

-- A line, its block number, its value, and whether it violates.
pub record Event : Type 0 where
  pub line : Line
  pub block : ℕ
  pub value : ℕ
  pub broken : Bool

abbrev pub event_of : Case → (ℕ → ℕ) → Step → Event
event_of case given s = record {
  line = s.line;
  block = s.block;
  value = value_of s.line (reads_at case given s);
  broken = broken case given s;
}

-- The events of so many steps in block i.
abbrev pub block_events : Case → (ℕ → ℕ) → ℕ → ℕ → List Line → Memory → List Event
block_events case given i steps ls m = map (event_of case given) (block_steps case given i steps ls m)

-- Lines that were not run: after all blocks from 0 to n, i is n + 1.
abbrev pub left_events : ℕ → List Line → List Event
left_events i [] = []
left_events i (l ∷ ls) = record { line = l; block = i; value = unrun_value l.kind; broken = false } ∷ left_events i ls

abbrev pub all_left_events : ℕ → List (List Line) → List Event
all_left_events i [] = []
all_left_events i (ls ∷ rests) = left_events i ls ++ all_left_events i rests

-- The events from block i on, and the items where each block ends.
abbrev pub events : Case → (ℕ → ℕ) → ℕ → List ℕ → State → List Event
events case given i [] s = all_left_events i s.rests
events case given i (len ∷ lens) s =
    block_events case given i len (rest_in case i s) (memory_in case i s) ++ events case given (suc i) lens (next_state case given i len s)

abbrev pub snapshots : Case → (ℕ → ℕ) → ℕ → List ℕ → State → List (List ℕ)
snapshots case given i [] s = []
snapshots case given i (len ∷ lens) s = (next_state case given i len s).items ∷ snapshots case given (suc i) lens (next_state case given i len s)
