-- The values that a schedule gives to input lines, put in their places by record number: what the code's loops do.
-- Assumes nothing.
use Rattle.std.specs.Prelude.{◌≡◌, ℕ, ◌+◌, ◌<◌, Bool, cond, List, [], ◌∷◌, get_or, length, set, replicate}
use Rattle.model.specs.Limits.{record_places}
use Rattle.model.specs.CaseFile.{Line, thread_count, case_of, lines_of}
use Rattle.model.specs.Line.{is_input}
use Rattle.laws.specs.Accepted.{thread_lines}

-- The value given to each input line, by record number, and how many numbers of the schedule are used.
pub record Inputs : Type 0 where
  pub given : List ℕ
  pub used : ℕ

abbrev pub inputs : List ℕ → ℕ → Inputs
inputs given used = record { given = given; used = used }

-- The next number of the schedule goes to record k, if that is an input.
unfoldable pub put_next : List ℕ → Bool → ℕ → Inputs → Inputs
put_next schedule input k f =
    cond input (record { given = set f.given k (get_or schedule f.used 0); used = f.used + 1 }) f

unfoldable pub put_lines : List ℕ → List Line → Inputs → Inputs
put_lines schedule [] f = f
put_lines schedule (l ∷ ls) f = put_lines schedule ls (put_next schedule (is_input l.kind) l.number f)

unfoldable pub put_threads : List ℕ → List (List Line) → Inputs → Inputs
put_threads schedule [] f = f
put_threads schedule (ls ∷ threads) f = put_threads schedule threads (put_lines schedule ls f)

-- No value is given yet; the block lengths are the first numbers of a schedule.
abbrev pub no_inputs : ℕ → Inputs
no_inputs lengths = inputs (replicate record_places 0) lengths

-- The inputs of thread t have their values, and it has so many lines.
pub record ThreadPut (bytes schedule : List ℕ) (t : ℕ) (entry exit : Inputs) (lines : ℕ) : Type 0 where
  pub values : exit ≡ put_lines schedule (thread_lines bytes t) entry
  pub counted : lines ≡ length (thread_lines bytes t)

-- So many lines has each thread.
abbrev pub LinesCounted : List ℕ → List ℕ → Type 0
LinesCounted bytes lines = (t : ℕ) → t < thread_count bytes → get_or lines t 0 ≡ length (lines_of (case_of bytes) t)

-- The inputs of all threads have their values, and the threads have so many lines.
pub record AllPut (bytes schedule : List ℕ) (entry exit : Inputs) (lines : List ℕ) : Type 0 where
  pub values : exit ≡ put_threads schedule (case_of bytes).threads entry
  pub counted : LinesCounted bytes lines
