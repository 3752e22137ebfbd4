-- Refusals 12 and 13, and what is known of a schedule that they do not meet.
-- Assumes nothing.
use Rattle.std.specs.Prelude.{◌≡◌, ℕ, Bool, List, eqb, length, get_or, Result, Ok, Err}
use Rattle.model.specs.Limits.{record_places}
use Rattle.model.specs.Lists.{unless}
use Rattle.model.specs.CaseFile.{Case, case_of}
use Rattle.model.specs.declared.Refusal.{Refusal}
use Rattle.model.specs.declared.Refusal.TheVariants.{Schedule, Lengths}
use Rattle.model.specs.Schedule.{schedule_size, block_lengths, lengths_fit, given_in}

-- "12. The schedule does not have exactly n + 1 numbers and one for each input line."; "13. The block lengths of some thread do not add
-- up to its lines", or, since Two, to less.
abbrev pub refusal_by : Bool → Bool → Result (Unit {0}) Refusal
refusal_by whole fits = unless whole (Err Schedule) (unless fits (Err Lengths) (Ok tt))

unfoldable pub refusal_of : Case → List ℕ → Result (Unit {0}) Refusal
refusal_of case schedule = refusal_by (eqb (length schedule) (schedule_size case)) (lengths_fit case (block_lengths case schedule))

-- The schedule's refusal is this; where it has none, each record has the value that the schedule gives it. Each record number has a place.
pub record Looked (bytes schedule : List ℕ) (answer : Result (Unit {0}) Refusal) (givens : List ℕ) : Type 0 where
  pub refuses : answer ≡ refusal_of (case_of bytes) schedule
  pub places : length givens ≡ record_places
  pub values : answer ≡ Ok tt → (k : ℕ) → get_or givens k 0 ≡ given_in (case_of bytes) schedule k
