-- Document 01, "Runs" and "What demand 3 compares": the run of a schedule step by step; when it is legal and violates, as Two changes it.
-- Assumes nothing.
use Rattle.std.specs.Prelude.{◌≡◌, ℕ, zero, suc, ◌%◌, ◌≤◌, ◌<◌, Bool, true, false, cond, ◌&&◌, List, [], ◌∷◌, ◌++◌, map, eqb, length}
use Rattle.model.specs.Word.{word_size, AllBelow}
use Rattle.model.specs.CaseFile.{Line, Case, lines_of}
use Rattle.model.specs.Line.{Reads, value_of, stops, breaks, late, stray_input}
use Rattle.model.specs.Machine.{Memory, State, reads_in, stepped, start, rest_in, memory_in, after_block, first_stray_left}
use Rattle.model.specs.Schedule.{block_lengths, given_in, schedule_size, steps_of, lengths_fit}

-- "A step takes the thread's next line": the block that it is in, the line, and the memory that the line finds.
pub record Step : Type 0 where
  pub block : ℕ
  pub line : Line
  pub memory : Memory

-- "it steps the thread of block i as often as the length of block i says; no thread has more steps than lines"; "After any other
-- step the record that follows becomes the next line.": the steps of block i, and the memory after them.
abbrev pub block_steps : Case → (ℕ → ℕ) → ℕ → ℕ → List Line → Memory → List Step
block_steps case given i zero ls m = []
block_steps case given i (suc steps) [] m = []
block_steps case given i (suc steps) (l ∷ ls) m =
    record { block = i; line = l; memory = m } ∷ block_steps case given i steps ls (stepped case given l m)

abbrev pub memory_after : Case → (ℕ → ℕ) → ℕ → List Line → Memory → Memory
memory_after case given zero ls m = m
memory_after case given (suc steps) [] m = m
memory_after case given (suc steps) (l ∷ ls) m = memory_after case given steps ls (stepped case given l m)

-- The memory and the state after block i.
abbrev pub end_memory : Case → (ℕ → ℕ) → ℕ → ℕ → State → Memory
end_memory case given i len s = memory_after case given len (rest_in case i s) (memory_in case i s)

abbrev pub next_state : Case → (ℕ → ℕ) → ℕ → ℕ → State → State
next_state case given i len s = after_block case i len s (end_memory case given i len s)

-- "For i from 0 to n": the steps of the blocks from i on in running order, as if no line ended the run; and the state after them.
abbrev pub course : Case → (ℕ → ℕ) → ℕ → List ℕ → State → List Step
course case given i [] s = []
course case given i (len ∷ lens) s =
    block_steps case given i len (rest_in case i s) (memory_in case i s) ++ course case given (suc i) lens (next_state case given i len s)

abbrev pub last_state : Case → (ℕ → ℕ) → ℕ → List ℕ → State → State
last_state case given i [] s = s
last_state case given i (len ∷ lens) s = last_state case given (suc i) lens (next_state case given i len s)

-- What a step's line reads.
abbrev pub reads_at : Case → (ℕ → ℕ) → Step → Reads
reads_at case given s = reads_in case given s.line s.memory

-- "with a true guard, an assume that is zero or a lock whose mutex is not 0 ends the run there"
abbrev pub ends : Case → (ℕ → ℕ) → Step → Bool
ends case given s = stops s.line.kind s.line (reads_at case given s)

-- "14. The run meets an input line with a false guard and a value other than 0"
abbrev pub strays : Case → (ℕ → ℕ) → Step → Bool
strays case given s = stray_input s.line.kind s.line (reads_at case given s)

-- What violates at a step: "a guarded-in assert of it is zero", or, since Four, its line unlocks what its thread does not hold.
abbrev pub broken : Case → (ℕ → ℕ) → Step → Bool
broken case given s = breaks true s.line.kind s.line (reads_at case given s) (value_of s.line (reads_at case given s))

-- The steps before the first that has the test.
abbrev pub up_to_first : (Step → Bool) → List Step → List Step
up_to_first test [] = []
up_to_first test (s ∷ steps) = cond (test s) [] (s ∷ up_to_first test steps)

-- No step has the test; this one is the first that has it; the first is that of record k.
abbrev pub None : (Step → Bool) → List Step → Type 0
None test [] = Unit
None test (s ∷ steps) = (test s ≡ false) × None test steps

pub record First (test : Step → Bool) (steps : List Step) (s : Step) : Type 0 where
  pub before : List Step
  pub after : List Step
  pub split : steps ≡ before ++ (s ∷ after)
  pub none_before : None test before
  pub here : test s ≡ true

abbrev pub FirstAt : (Step → Bool) → List Step → ℕ → Type 0
FirstAt test steps k = (s : Step) × First test steps s × (s.line.number ≡ k)

-- "The run of a schedule is what this machine does.": the steps that its blocks have, those before the first that ends the run,
-- and the items where the blocks end. An input that refusal 14 meets does not end these steps; a schedule that has one is not taken.
abbrev pub course_of : Case → List ℕ → List Step
course_of case schedule = course case (given_in case schedule) 0 (block_lengths case schedule) (start case)

abbrev pub run_steps : Case → List ℕ → List Step
run_steps case schedule = up_to_first (ends case (given_in case schedule)) (course_of case schedule)

abbrev pub last_items : Case → List ℕ → List ℕ
last_items case schedule = (last_state case (given_in case schedule) 0 (block_lengths case schedule) (start case)).items

-- The steps of thread t among these: "Block i (0 to n) belongs to thread i modulo T"; and the lines that it runs in them.
abbrev pub thread_steps : Case → ℕ → List Step → List Step
thread_steps case t [] = []
thread_steps case t (s ∷ steps) = cond (eqb t (s.block % case.T)) (s ∷ thread_steps case t steps) (thread_steps case t steps)

abbrev pub lines_run : Case → ℕ → List Step → List Line
lines_run case t steps = map (λ s. s.line) (thread_steps case t steps)

-- Five: "An invisible line that is not its thread's first takes the block number of the line before it". None of a thread's steps runs an
-- invisible line in a later block than the line before it; and none of a schedule's does: "the schedules that keep the rule".
abbrev pub NoneLate : List Step → Type 0
NoneLate [] = Unit
NoneLate (before ∷ []) = Unit
NoneLate (before ∷ (s ∷ steps)) = (late s.line.kind before.block s.block ≡ false) × NoneLate (s ∷ steps)

abbrev pub KeepsRule : Case → List ℕ → Type 0
KeepsRule case schedule = (t : ℕ) → t < case.T → NoneLate (thread_steps case t (course_of case schedule))

-- Six: "the first such record by thread and chain": that of the first such step among a thread's, and among those of all threads.
abbrev pub IfLate : Bool → Type 0 → Type 0 → Type 0
IfLate true own others = own
IfLate false own others = others

abbrev pub ThreadLate : List Step → ℕ → Type 0
ThreadLate [] k = ⊥
ThreadLate (before ∷ []) k = ⊥
ThreadLate (before ∷ (s ∷ steps)) k =
    IfLate (late s.line.kind before.block s.block) (s.line.number ≡ k) (ThreadLate (s ∷ steps) k)

pub record FirstLate (case : Case) (schedule : List ℕ) (k : ℕ) : Type 0 where
  pub thread : ℕ
  pub is_thread_lem : thread < case.T
  pub none_before : (t : ℕ) → t < thread → NoneLate (thread_steps case t (course_of case schedule))
  pub here : ThreadLate (thread_steps case thread (course_of case schedule)) k

-- Two: "A run is legal when nothing cuts it off", that is "when every guarded-in assume holds and every guarded-in lock finds its mutex
-- at 0."
abbrev pub Legal : Case → List ℕ → Type 0
Legal case schedule = None (ends case (given_in case schedule)) (course_of case schedule)

-- The run's first line that violates is that of record k ("the first of either sort"); the line of record k is one that violates; the run
-- has none; and this is the first step whose assume or lock fails.
abbrev pub FirstBroken : Case → List ℕ → ℕ → Type 0
FirstBroken case schedule k = FirstAt (broken case (given_in case schedule)) (run_steps case schedule) k

abbrev pub BrokenAt : Case → List ℕ → ℕ → Type 0
BrokenAt case schedule k =
    (s : Step) × First (λ s'. eqb s'.line.number k && broken case (given_in case schedule) s') (run_steps case schedule) s

abbrev pub NoneBroken : Case → List ℕ → Type 0
NoneBroken case schedule = None (broken case (given_in case schedule)) (run_steps case schedule)

abbrev pub FirstEnding : Case → List ℕ → Step → Type 0
FirstEnding case schedule s = First (ends case (given_in case schedule)) (course_of case schedule) s

-- "An input line whose guard is false in the run has value 0."
abbrev pub NoneStrays : Case → List ℕ → Type 0
NoneStrays case schedule = None (strays case (given_in case schedule)) (run_steps case schedule)

-- "14. The run meets an input line with a false guard and a value other than 0; the place is that record."
abbrev pub FirstStray : Case → List ℕ → ℕ → Type 0
FirstStray case schedule k = FirstAt (strays case (given_in case schedule)) (run_steps case schedule) k

-- Two: "An unrun input has value 0, otherwise 14 at the first such record by thread and chain": its record, among the lines that the
-- blocks leave; 0 if there is none.
abbrev pub lines_left : Case → List ℕ → List (List Line)
lines_left case schedule = (last_state case (given_in case schedule) 0 (block_lengths case schedule) (start case)).rests

abbrev pub unrun_input : Case → List ℕ → ℕ
unrun_input case schedule = first_stray_left (given_in case schedule) (lines_left case schedule)

-- Two: ".. looked for after the last step", and so after a cut-off and a 14 on the way: how 14 meets a schedule at record k.
pub data Meets14 (case : Case) (schedule : List ℕ) (k : ℕ) : Type 0 where
  on_the_way : FirstStray case schedule k → Meets14 case schedule k
  after_the_last_step : NoneStrays case schedule → Legal case schedule → 0 < k → unrun_input case schedule ≡ k → Meets14 case schedule k

-- Two: "and violates when it also contains a zero assert", or, since Four, an unlock by a stranger: "whoever reads in a demand that a run
-- breaks an assertion .. now reads that it violates".
pub record Violates (case : Case) (schedule : List ℕ) : Type 0 where
  pub legal : Legal case schedule
  pub some_broken : (k : ℕ) × FirstBroken case schedule k

-- "A schedule is n + 1 block lengths, then one value for each input line, .. each a number from 0 to 65,535"; "no thread has more
-- steps than lines". "A run in blocks 0 to n is the run of some such schedule."
pub record InBlocks (case : Case) (schedule : List ℕ) : Type 0 where
  pub numbers : AllBelow word_size schedule
  pub has_size : length schedule ≡ schedule_size case
  pub few_steps_lem : (t : ℕ) → t < case.T → steps_of case t 0 (block_lengths case schedule) ≤ length (lines_of case t)
  pub none_strays_lem : NoneStrays case schedule
  pub none_left : Legal case schedule → unrun_input case schedule ≡ 0

-- "The replayer takes a schedule when none of refusals 12 to 14 meets it"
pub record Takes (case : Case) (schedule : List ℕ) : Type 0 where
  pub not_12 : length schedule ≡ schedule_size case
  pub not_13 : lengths_fit case (block_lengths case schedule) ≡ true
  pub not_14 : NoneStrays case schedule
  pub nor_after : Legal case schedule → unrun_input case schedule ≡ 0
