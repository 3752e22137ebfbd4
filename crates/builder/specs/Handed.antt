-- A record that is handed on by itself, as the code holds it.
-- Assumes nothing.
use Rattle.std.specs.Prelude.{ℕ, List, get_or}
use Rattle.model.specs.CaseFile.{kind_of}
use Rattle.case_file.specs.declared.Record.{Record}

-- The record by its fields: "next, kind, guard, target, op, a, b, c".
abbrev pub record_handed : List ℕ → Record
record_handed fields = record {
  thread = 0;
  kind_number = get_or fields 1 0;
  kind = kind_of (get_or fields 1 0);
  guard = get_or fields 2 0;
  target = get_or fields 3 0;
  op = get_or fields 4 0;
  a = get_or fields 5 0;
  b = get_or fields 6 0;
  c = get_or fields 7 0;
}
