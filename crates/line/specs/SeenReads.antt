-- What a line reads, where its thread finds the locals, the items and the counts of a `Seen`.
-- Assumes nothing.
use Rattle.std.specs.Prelude.{◌≡◌, ℕ, Bool, true, List}
use Rattle.model.specs.CaseFile.{Line}
use Rattle.model.specs.Line.{Reads, guard_true, breaks}
use Rattle.model.specs.Machine.{Memory}
use Rattle.case_file.specs.declared.Record.{Record}
use Rattle.case_file.specs.Records.{as_line}
use Rattle.line.specs.declared.Seen.{Seen}
use Rattle.line.specs.LineReads.{memory, reads_from}

-- The memory that the thread finds.
abbrev pub memory_in : Seen → Memory
memory_in seen = memory seen.locals.now seen.items.now seen.counts.items

-- What a line reads there, if it is given this value: only an input reads that.
abbrev pub reads_in : Seen → ℕ → Line → Reads
reads_in seen given l = reads_from seen.counts.globals seen.counts.items given seen.locals.now seen.items.now l

-- The same, whatever the thread's locals are.
abbrev pub reads_by : Seen → ℕ → List ℕ → Line → Reads
reads_by seen given locals l = reads_from seen.counts.globals seen.counts.items given locals seen.items.now l

-- Whether a record that is run with a true guard and has this value violates: what it reads of the items decides.
abbrev pub Breaks : Seen → Record → ℕ → Bool → Type 0
Breaks seen l value r = (given k : ℕ) (locals : List ℕ) → guard_true (as_line l k) (reads_by seen given locals (as_line l k)) ≡ true
    → r ≡ breaks true l.kind (as_line l k) (reads_by seen given locals (as_line l k)) value
