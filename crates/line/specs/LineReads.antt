-- What a line reads, where a thread's locals and the items have these values.
-- Assumes nothing.
use Rattle.std.specs.Prelude.{◌≡◌, ℕ, ◌≤◌, true, List, take}
use Rattle.model.specs.Limits.{most_items}
use Rattle.model.specs.CaseFile.{Line}
use Rattle.model.specs.Line.{Reads, reads_of, has_expression, expression}
use Rattle.model.specs.Machine.{Memory, look}
use Rattle.case_file.specs.declared.Record.{Record}
use Rattle.case_file.specs.Records.{as_line}

-- The memory of a thread with these locals, where the first so many items are those of the case.
abbrev pub memory : List ℕ → List ℕ → ℕ → Memory
memory locals items count = record { locals = locals; items = take count items }

-- What a line reads there, in a case with G globals, if it is given this value.
abbrev pub reads_from : ℕ → ℕ → ℕ → List ℕ → List ℕ → Line → Reads
reads_from G count given locals items l = reads_of G (look (memory locals items count)) l given

-- The value of a record's expression, of a kind that has one: the thread's locals alone decide it.
abbrev pub Expressed : List ℕ → Record → ℕ → Type 0
Expressed locals l r = (G count given : ℕ) (items : List ℕ) (k : ℕ) → count ≤ most_items → has_expression l.kind ≡ true
    → r ≡ expression (as_line l k) (reads_from G count given locals items (as_line l k))
