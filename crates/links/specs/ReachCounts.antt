-- How often each record is reached, as the code counts it: 1 for each that the walk has come to.
-- Assumes nothing.
use Rattle.std.specs.Prelude.{◌≡◌, ℕ, zero, suc, ◌+◌, ◌≤◌, ◌<◌, List, [], ◌∷◌, length, get_or, set, replicate, Result, Ok, Err}
use Rattle.model.specs.Limits.{record_places}
use Rattle.model.specs.CaseFile.{Line, records, thread_count, chains}
use Rattle.model.specs.declared.Refusal.{Refusal}
use Rattle.model.specs.declared.Refusal.TheVariants.{Links}
use Rattle.laws.specs.Accepted.{thread_lines}
use Rattle.links.specs.Links.{LinksWithin}

-- The counts with one more at k; for each of the lines; for each line of the threads.
abbrev pub one_more_at : List ℕ → ℕ → List ℕ
one_more_at counts k = set counts k (get_or counts k 0 + 1)

unfoldable pub count_lines : List ℕ → List Line → List ℕ
count_lines counts [] = counts
count_lines counts (l ∷ ls) = count_lines (one_more_at counts l.number) ls

unfoldable pub count_threads : List ℕ → List (List Line) → List ℕ
count_threads counts [] = counts
count_threads counts (ls ∷ threads) = count_threads (count_lines counts ls) threads

-- The counts of a case, one for each record number.
abbrev pub reached_of : List ℕ → List ℕ
reached_of bytes = count_threads (replicate record_places 0) (chains bytes 0 (thread_count bytes))

-- The counts of records 1 to `most`, summed.
unfoldable pub sum_to : List ℕ → ℕ → ℕ
sum_to counts zero = 0
sum_to counts (suc most) = sum_to counts most + get_or counts (suc most) 0

-- Counts while no record has been reached twice.
pub record Marks (counts : List ℕ) : Type 0 where
  pub size : length counts ≡ record_places
  pub single : (j : ℕ) → get_or counts j 0 ≤ 1

-- What following the chain of thread t needs; and what following all chains does, before any record is reached.
pub record FollowReady (bytes : List ℕ) (t : ℕ) (counts : List ℕ) : Type 0 where
  pub links : LinksWithin bytes
  pub thread : t < thread_count bytes
  pub marks : Marks counts

pub record Unmarked (bytes counts : List ℕ) : Type 0 where
  pub links : LinksWithin bytes
  pub none : counts ≡ replicate record_places 0

-- A record from 1 to `most` is reached twice or more.
pub record Twice (counts : List ℕ) (most : ℕ) : Type 0 where
  pub place : ℕ
  pub low : 0 < place
  pub high : place ≤ most
  pub count : 2 ≤ get_or counts place 0

-- The counts `after` are those `before` and n lines, and none of these was reached before.
pub record Walked (before : List ℕ) (ls : List Line) (most : ℕ) (after : List ℕ) (n : ℕ) : Type 0 where
  pub counts : after ≡ count_lines before ls
  pub lines : n ≡ length ls
  pub marks : Marks after
  pub sum : sum_to after most ≡ sum_to before most + n

-- What following the chain of thread t answers: its number of lines, or 6 if a record is reached twice.
abbrev pub Followed : List ℕ → ℕ → List ℕ → List ℕ → Result ℕ Refusal → Type 0
Followed bytes t before after (Ok n) = Walked before (thread_lines bytes t) (records bytes) after n
Followed bytes t before after (Err e) = (e ≡ Links) × Twice (count_lines before (thread_lines bytes t)) (records bytes)
