-- What a walk over 4s and 5s requires, and what it leaves behind: the items of the block that a thread is in, the copies, the line
-- that violates.
-- Assumes nothing.
use Rattle.std.specs.Prelude.{◌≡◌, ◌≢◌, ℕ, ◌<◌, Bool, true, false, List, [], reverse, set, Result, Ok, Err, IfOk}
use Rattle.model.specs.CaseFile.{thread_count, case_of, lines_of}
use Rattle.model.specs.Copies.{held_copy, take_copy}
use Rattle.model.specs.Assignment.{assignment_of, was_run}
use Rattle.laws.specs.Accepted.{thread_lines}
use Rattle.copies.specs.CopyChains.{ThreadChains, CopyChains}
use Rattle.assignment.specs.Numbers.{StartOf}
use Rattle.search.specs.declared.Failed.{Failed}
use Rattle.search.specs.Search.{searched, Room}
use Rattle.value_check.specs.declared.Walk.{Walk}
use Rattle.value_check.specs.Rows.{thread_values, all_values, ThreadOrdered, AllOrdered}
use Rattle.value_check.specs.Breaking.{breaking_after, first_breaking}

-- Line k is taken, whose target has this name, and the copy before it is noted for it.
pub record CopyNoted (name k : ℕ) (previous held previous' held' : List ℕ) : Type 0 where
  pub notes : previous' ≡ set previous k (held_copy held name)
  pub takes : held' ≡ take_copy held name k

-- Whether a line with block number i was run, and the items: if so, where its thread goes on in block i.
pub record Entered (bytes xs : List ℕ) (block i : ℕ) (items items' : List ℕ) (run : Bool) : Type 0 where
  pub asked : run ≡ was_run (case_of bytes) i
  pub leaves : run ≡ false → items' ≡ items
  pub stays : i ≡ block → items' ≡ items
  pub enters : run ≡ true → i ≢ block → StartOf bytes xs i items'

-- After thread t's lines, of which all 4s and 5s hold.
pub record ThreadWalked (bytes xs : List ℕ) (t was : ℕ) (held previous : List ℕ) (broken : ℕ) : Type 0 where
  pub chains : ThreadChains (case_of bytes) held previous t (reverse (lines_of (case_of bytes) t))
  pub breaking : broken ≡ breaking_after (case_of bytes) (assignment_of (case_of bytes) xs) was [] (thread_lines bytes t)

-- Before thread t's lines, the first constraint having number `start`.
pub record ThreadToAsk (bytes xs : List ℕ) (t start : ℕ) (held previous : List ℕ) : Type 0 where
  pub thread : t < thread_count bytes
  pub numbers : Room start (thread_values bytes t)
  pub chains : ThreadChains (case_of bytes) held previous t []
  pub ordered : ThreadOrdered bytes xs t

-- Of what a walk comes to: the number of the next constraint, or the first that fails.
abbrev pub next_of : Result Walk Failed → Result ℕ Failed
next_of (Ok walk) = Ok walk.next
next_of (Err failed) = Err failed

-- Which of thread t's 4s and 5s fails first, after a walk over the threads before it; and if none does, what is left.
pub record ThreadAsked (bytes xs : List ℕ) (t : ℕ) (from : Walk) (held previous : List ℕ) (r : Result Walk Failed) : Type 0 where
  pub found : next_of r ≡ searched bytes xs from.next (thread_values bytes t)
  pub walked : IfOk r (λ walk. ThreadWalked bytes xs t from.broken held previous walk.broken)

-- After all threads' lines.
pub record AllWalked (bytes xs : List ℕ) (latest : List (List ℕ)) (previous : List ℕ) (broken : ℕ) : Type 0 where
  pub chains : CopyChains (case_of bytes) latest previous (thread_count bytes)
  pub breaking : broken ≡ first_breaking bytes xs

-- Before all threads' lines, the first constraint having number `start`.
pub record AllToAsk (bytes xs : List ℕ) (start : ℕ) (latest : List (List ℕ)) (previous : List ℕ) : Type 0 where
  pub numbers : Room start (all_values bytes)
  pub chains : CopyChains (case_of bytes) latest previous 0
  pub ordered : AllOrdered bytes xs

-- Which of all 4s and 5s fails first; and if none does, what is left.
pub record AllAsked (bytes xs : List ℕ) (start : ℕ) (latest : List (List ℕ)) (previous : List ℕ) (r : Result Walk Failed) : Type 0 where
  pub found : next_of r ≡ searched bytes xs start (all_values bytes)
  pub walked : IfOk r (λ walk. AllWalked bytes xs latest previous walk.broken)
