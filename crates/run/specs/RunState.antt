-- The threads of a run as the code holds them, and the state of the machine that they stand for.
-- Assumes nothing.
use Rattle.std.specs.Prelude.{ℕ, zero, suc, List, [], ◌∷◌, get_or, replicate}
use Rattle.model.specs.Limits.{local_count}
use Rattle.model.specs.CaseFile.{Line, thread_count, global_count, first_record}
use Rattle.model.specs.Machine.{State}
use Rattle.laws.specs.Accepted.{lines_from}
use Rattle.case_file.specs.FirstItems.{first_items}
use Rattle.turn.specs.declared.Stand.TheVariants.{Running}
use Rattle.turn.specs.declared.Turn.{Turn}
use Rattle.turn.specs.TurnState.{items_of}
use Rattle.run.specs.declared.Thread.{Thread}
use Rattle.run.specs.declared.Shared.{Shared}

abbrev pub none : Thread
none = record { next = 0; locals = [] }

abbrev pub thread_at : List Thread → ℕ → Thread
thread_at threads t = get_or threads t none

-- A thread's turn.
abbrev pub turn_of : Thread → Shared → Turn
turn_of thread shared = record {
  next = thread.next;
  locals = thread.locals;
  items = shared.items;
  stand = shared.stand;
  note = shared.note;
}

abbrev pub turn_at : List Thread → ℕ → Shared → Turn
turn_at threads t shared = turn_of (thread_at threads t) shared

-- f t, f (t + 1), .. : so many
unfoldable pub list_from : {A : Type 0} → (ℕ → A) → ℕ → ℕ → List A
list_from f t zero = []
list_from f t (suc many) = f t ∷ list_from f (suc t) many

-- The lines that are left of thread t, and of all threads.
abbrev pub rest_at : List ℕ → List Thread → ℕ → List Line
rest_at bytes threads t = lines_from bytes t (thread_at threads t).next

abbrev pub rests_of : List ℕ → List Thread → List (List Line)
rests_of bytes threads = list_from (rest_at bytes threads) 0 (thread_count bytes)

abbrev pub state_of : List ℕ → List Thread → List ℕ → State
state_of bytes threads items = record {
  rests = rests_of bytes threads;
  locals = list_from (λ t. (thread_at threads t).locals) 0 (thread_count bytes);
  items = items_of bytes items;
}

-- Thread t where a run starts.
abbrev pub first_thread : List ℕ → ℕ → Thread
first_thread bytes t = record { next = first_record bytes t; locals = replicate local_count 0 }

abbrev pub first_threads : List ℕ → List Thread
first_threads bytes = first_thread bytes 0 ∷ (first_thread bytes 1 ∷ (first_thread bytes 2 ∷ (first_thread bytes 3 ∷ [])))

abbrev pub first_shared : List ℕ → Shared
first_shared bytes = record { items = first_items bytes (global_count bytes); stand = Running; note = 0 }
