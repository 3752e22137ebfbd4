-- The 4 and the 5 of a line: what they ask, by its record and what the locals and the items have, and the first that fails.
-- Assumes nothing.
use Rattle.std.specs.Prelude.{◌≡◌, ℕ, ◌+◌, Bool, true, false, cond, not, ◌||◌, eqb, ⊤, Result, Ok, Err}
use Rattle.model.specs.CaseFile.{Line}
use Rattle.model.specs.Line.{Reads, target_name, guard_true, value_of, unrun_value, breaks}
use Rattle.model.specs.Holds.{demand_met}
use Rattle.case_file.specs.declared.Record.{Record}
use Rattle.case_file.specs.Records.{as_line}
use Rattle.line.specs.SeenReads.{reads_in}
use Rattle.line.specs.declared.Counts.{Counts}
use Rattle.line.specs.declared.Seen.{Seen}
use Rattle.search.specs.declared.Failed.{Failed}
use Rattle.value_check.specs.declared.Asked.{Asked}

-- What a line is asked that was run or not, with these reads and this value, in a case with G globals. Whether it violates is known
-- where it has the value that its 4 asks for.
pub record Asks (run : Bool) (G : ℕ) (l : Line) (reads : Reads) (value : ℕ) (r : Asked) : Type 0 where
  pub asking : r.value ≡ cond run (value_of l reads) (unrun_value l.kind)
  pub meeting : r.met ≡ (not run || demand_met l.kind l reads value)
  pub breaking : value ≡ r.value → r.breaks ≡ breaks run l.kind l reads value
  pub naming : r.name ≡ target_name G l

-- What a record is asked, whatever its number is: one that was run, where its guard is so; one that was not, whatever it would read;
-- and any.
abbrev pub AskedWhere : Bool → Seen → Record → ℕ → Asked → Type 0
AskedWhere on seen l value r = (k : ℕ) → guard_true (as_line l k) (reads_in seen value (as_line l k)) ≡ on
    → Asks true seen.counts.globals (as_line l k) (reads_in seen value (as_line l k)) value r

abbrev pub AskedUnrun : Counts → Record → Asked → Type 0
AskedUnrun counts l r = (k : ℕ) (reads : Reads) (value : ℕ) → Asks false counts.globals (as_line l k) reads value r

abbrev pub AskedOf : Bool → Seen → Record → ℕ → Asked → Type 0
AskedOf run seen l value r = (k : ℕ) (reads : Reads) → (run ≡ true → reads ≡ reads_in seen value (as_line l k))
    → Asks run seen.counts.globals (as_line l k) reads value r

-- The first of a line's 4 and 5 that fails, where the 4 has number `at`, if one does.
unfoldable pub failing_asked : ℕ → Asked → ℕ → Result ⊤ Failed
failing_asked at r value = cond (eqb value r.value) (cond r.met (Ok tt) (Err (record { constraint = at + 1 }))) (Err (record { constraint = at }))
