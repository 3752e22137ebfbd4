-- The schedule of an assignment, by the bytes of the case and the numbers of the assignment, and what the code's parts make of it.
-- Assumes nothing.
use Rattle.std.specs.Prelude.{ℕ, suc, ◌+◌, ◌%◌, ◌≤◌, ◌<◌, ◌≡◌, ◌≢◌, cond, List, [], ◌∷◌, ltb, get_or, set, length, replicate}
use Rattle.model.specs.Limits.{most_threads, most_lines, most_blocks}
use Rattle.model.specs.Lists.{numbers_from}
use Rattle.model.specs.CaseFile.{thread_count, switch_count, case_of}
use Rattle.model.specs.Line.{guard_true, is_input}
use Rattle.model.specs.Assignment.{assignment_of, was_run}
use Rattle.model.specs.Schedule.{lines_in_block, decoded_values, all_decoded_values, decode}
use Rattle.laws.specs.Accepted.{thread_lines}
use Rattle.laws.specs.Written.{numbers_at, Put}
use Rattle.case_file.specs.declared.Record.{Record}
use Rattle.case_file.specs.Records.{as_line}
use Rattle.line.specs.LineReads.{reads_from}
use Rattle.assignment.specs.Numbers.{record_block}

-- The schedule, and its numbers for all input lines and for those of thread t.
abbrev pub schedule_of : List ℕ → List ℕ → List ℕ
schedule_of bytes xs = decode (case_of bytes) (assignment_of (case_of bytes) xs)

abbrev pub values_of : List ℕ → List ℕ → List ℕ
values_of bytes xs = all_decoded_values (case_of bytes) (assignment_of (case_of bytes) xs) (case_of bytes).threads

abbrev pub thread_inputs : List ℕ → List ℕ → ℕ → List ℕ
thread_inputs bytes xs t = decoded_values (case_of bytes) (assignment_of (case_of bytes) xs) [] (thread_lines bytes t)

-- Thread t has so many lines in each block; each thread has.
abbrev pub CountsOf : List ℕ → List ℕ → ℕ → List ℕ → Type 0
CountsOf bytes xs t counts = (i : ℕ) → i < most_blocks → get_or counts i 0 ≡ lines_in_block (record_block xs) i (thread_lines bytes t)

abbrev pub AllCounts : List ℕ → List ℕ → List (List ℕ) → Type 0
AllCounts bytes xs counts = (t : ℕ) → t < thread_count bytes → CountsOf bytes xs t (get_or counts t [])

-- Thread t has room for the values of its input lines from a place on, and none of its lines is counted yet.
pub record ThreadToWrite (bytes xs : List ℕ) (t at : ℕ) (slice : List ℕ) (counts : List (List ℕ)) : Type 0 where
  pub thread : t < thread_count bytes
  pub room : at + length (thread_inputs bytes xs t) ≤ length slice
  pub rows : length counts ≡ most_threads
  pub fresh : get_or counts t [] ≡ replicate most_blocks 0

-- These values are written, thread t's lines are counted, and the counts of the other threads stay.
pub record ThreadWritten (bytes xs : List ℕ) (t at : ℕ) (before after : List ℕ) (counts counts' : List (List ℕ)) (r : ℕ) : Type 0 where
  pub values : Put (thread_inputs bytes xs t) before at after r
  pub rows : length counts' ≡ most_threads
  pub own : CountsOf bytes xs t (get_or counts' t [])
  pub others : (u : ℕ) → u ≢ t → get_or counts' u [] ≡ get_or counts u []

-- Those of every thread.
pub record AllWritten (bytes xs before : List ℕ) (at : ℕ) (after : List ℕ) (r : List (List ℕ)) : Type 0 where
  pub values : after ≡ numbers_at before at (values_of bytes xs)
  pub counts : AllCounts bytes xs r

-- Thread t's count of a block can be raised.
pub record FewCounted (counts : List (List ℕ)) (t block : ℕ) : Type 0 where
  pub thread : t < most_threads
  pub few : get_or (get_or counts t []) block 0 ≤ most_lines

-- The counts after one more line of thread t in a block; what is no block changes nothing.
unfoldable pub with_line : List (List ℕ) → ℕ → ℕ → List (List ℕ)
with_line counts t block = cond (ltb block most_blocks) (set counts t (set (get_or counts t []) block (get_or (get_or counts t []) block 0 + 1))) counts

-- The lengths of the blocks by the counts of each thread: block i's is that of thread i modulo T.
abbrev pub lengths_in : List ℕ → List (List ℕ) → List ℕ
lengths_in bytes counts = numbers_from (λ i. get_or (get_or counts (i % thread_count bytes) []) i 0) 0 (suc (switch_count bytes))

-- The value of a line with this block number where it was run, else 0.
abbrev pub run_value : List ℕ → ℕ → ℕ → ℕ
run_value bytes block value = cond (was_run (case_of bytes) block) value 0

-- The number of an input line that was run with this value, where its thread's locals have these: of what the line reads, only the
-- guard's local matters, and the line's number does not.
unfoldable pub input_number : Record → List ℕ → ℕ → ℕ
input_number l locals value = cond (guard_true (as_line l 0) (reads_from 0 0 0 locals [] (as_line l 0))) value 0

-- The schedule's numbers for a line: none unless it is an input.
unfoldable pub own_numbers : Record → List ℕ → ℕ → List ℕ
own_numbers l locals value = cond (is_input l.kind) (input_number l locals value ∷ []) []
