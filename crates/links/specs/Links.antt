-- What checks 6 to 8 answer, and what the first part of 6 gives to the walks along the chains.
-- Assumes nothing.
use Rattle.std.specs.Prelude.{ℕ, ◌≤◌, ◌<◌, Bool, ◌&&◌, List, leb, Result, Ok, Err, ⊤}
use Rattle.model.specs.Limits.{most_threads}
use Rattle.model.specs.Lists.{all_from, unless}
use Rattle.model.specs.CaseFile.{records, thread_count, first_record, next_record}
use Rattle.model.specs.Accept.{times_reached, links_ok, reached_ok, lengths_ok}
use Rattle.model.specs.declared.Refusal.{Refusal}
use Rattle.model.specs.declared.Refusal.TheVariants.{Links, Unreached, Lines}
use Rattle.laws.specs.Sized.{Sized}

-- Check 6 in its parts: no first number and no next number is over `most`; both with R; no record is reached twice.
abbrev pub firsts_in : List ℕ → ℕ → Bool
firsts_in bytes most = all_from (λ t. leb (first_record bytes t) most) 0 (thread_count bytes)

abbrev pub nexts_in : List ℕ → ℕ → Bool
nexts_in bytes most = all_from (λ k. leb (next_record bytes k) most) 1 most

abbrev pub numbers_ok : List ℕ → Bool
numbers_ok bytes = firsts_in bytes (records bytes) && nexts_in bytes (records bytes)

abbrev pub once_ok : List ℕ → Bool
once_ok bytes = all_from (λ k. leb (times_reached bytes k) 1) 1 (records bytes)

-- Checks 1 and 2 passed: the records are there and few, and so are the threads.
pub record ThreadsWithin (bytes : List ℕ) : Type 0 where
  pub sized : Sized bytes
  pub few_threads : thread_count bytes ≤ most_threads

-- And the first part of 6: each first and each next number is 0 or a record.
pub record LinksWithin (bytes : List ℕ) : Type 0 where
  pub threads : ThreadsWithin bytes
  pub firsts : (t : ℕ) → t < thread_count bytes → first_record bytes t ≤ records bytes
  pub nexts : (k : ℕ) → 0 < k → k ≤ records bytes → next_record bytes k ≤ records bytes

-- Checks 6, 7 and 8 by what each finds: the first that fails refuses.
abbrev pub checked_6_to_8 : Bool → Bool → Bool → Result ⊤ Refusal
checked_6_to_8 six seven eight = unless six (Err Links) (unless seven (Err Unreached) (unless eight (Err Lines) (Ok tt)))

-- Of a case; and of a case that passes the first part of 6.
abbrev pub links_checked : List ℕ → Result ⊤ Refusal
links_checked bytes = checked_6_to_8 (links_ok bytes) (reached_ok bytes) (lengths_ok bytes)

abbrev pub chains_checked : List ℕ → Result ⊤ Refusal
chains_checked bytes = checked_6_to_8 (once_ok bytes) (reached_ok bytes) (lengths_ok bytes)
