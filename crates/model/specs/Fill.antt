-- Document 02, Six: "Fill the assignment for a violating schedule." The steps of the schedule's run give the numbers: each step the two of
-- its line, each block's end the block's values; a line that no step runs has those of a line that was not run.
-- Assumes nothing.
use Rattle.std.specs.Prelude.{ℕ, suc, cond, ◌&&◌, List, [], ◌∷◌, ltb, set, replicate}
use Rattle.std.proofs.lemmas.List.Edits.{sets}
use Rattle.model.specs.CaseFile.{Line, Case}
use Rattle.model.specs.Line.{value_of, unrun_value, late}
use Rattle.model.specs.Machine.{State, start, rest_in, memory_in}
use Rattle.model.specs.Assignment.{variables, block_place, value_place, items_place, was_run}
use Rattle.model.specs.Schedule.{block_lengths, given_in}
use Rattle.model.specs.Runs.{Step, block_steps, next_state, reads_at, lines_left}

-- The block number and the value of record k.
abbrev pub put_record : ℕ → ℕ → ℕ → List ℕ → List ℕ
put_record k block value xs = set (set xs (block_place k) block) (value_place k) value

-- A step's line has the block of the step, and the value that it has there.
abbrev pub put_steps : Case → (ℕ → ℕ) → List Step → List ℕ → List ℕ
put_steps case given [] xs = xs
put_steps case given (s ∷ steps) xs =
    put_steps case given steps (put_record s.line.number s.block (value_of s.line (reads_at case given s)) xs)

-- "block i (0 ≤ i < n)": the items where block i ends.
abbrev pub put_items : Case → ℕ → List ℕ → List ℕ → List ℕ
put_items case i items xs = cond (ltb i case.n) (sets xs (items_place case i) items) xs

-- The blocks from i on.
abbrev pub put_blocks : Case → (ℕ → ℕ) → ℕ → List ℕ → State → List ℕ → List ℕ
put_blocks case given i [] s xs = xs
put_blocks case given i (len ∷ lens) s xs =
    put_blocks case given (suc i) lens (next_state case given i len s)
    (put_items case i (next_state case given i len s).items
    (put_steps case given (block_steps case given i len (rest_in case i s) (memory_in case i s)) xs))

-- Two: "A line with block number n + 1 was not run": the lines that the blocks leave, of a thread and of all threads.
abbrev pub put_unrun : Case → List Line → List ℕ → List ℕ
put_unrun case [] xs = xs
put_unrun case (l ∷ ls) xs = put_unrun case ls (put_record l.number (suc case.n) (unrun_value l.kind) xs)

abbrev pub put_all_unrun : Case → List (List Line) → List ℕ → List ℕ
put_all_unrun case [] xs = xs
put_all_unrun case (ls ∷ rests) xs = put_all_unrun case rests (put_unrun case ls xs)

-- The assignment of a schedule.
unfoldable pub fill : Case → List ℕ → List ℕ
fill case schedule =
    put_all_unrun case (lines_left case schedule)
    (put_blocks case (given_in case schedule) 0 (block_lengths case schedule) (start case) (replicate (variables case) 0))

-- "one that runs an invisible line in a later block than the line before it, place the first such record by thread and chain": by the block
-- numbers of the lines, after the line before, of a thread and of all threads; 0 if there is none.
unfoldable pub late_after : Case → (ℕ → ℕ) → Line → List Line → ℕ → ℕ
late_after case block before [] others = others
late_after case block before (l ∷ ls) others =
    cond (was_run case (block l.number) && late l.kind (block before.number) (block l.number)) l.number
    (late_after case block l ls others)

unfoldable pub late_in : Case → (ℕ → ℕ) → List Line → ℕ → ℕ
late_in case block [] others = others
late_in case block (l ∷ ls) others = late_after case block l ls others

unfoldable pub first_late : Case → (ℕ → ℕ) → List (List Line) → ℕ
first_late case block [] = 0
first_late case block (ls ∷ threads) = late_in case block ls (first_late case block threads)
