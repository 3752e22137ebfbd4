-- A record as the code holds it, and the line that it is.
-- Assumes nothing.
use Rattle.std.specs.Prelude.{ℕ, List}
use Rattle.model.specs.CaseFile.{Line, record_field, next_record, kind_of}
use Rattle.case_file.specs.declared.Record.{Record}
use Rattle.case_file.specs.declared.Link.{Link}

-- Record k of a case, from 1, as a line of thread t.
abbrev pub record_of : List ℕ → ℕ → ℕ → Record
record_of bytes t k = record {
  thread = t;
  kind_number = record_field bytes k 1;
  kind = kind_of (record_field bytes k 1);
  guard = record_field bytes k 2;
  target = record_field bytes k 3;
  op = record_field bytes k 4;
  a = record_field bytes k 5;
  b = record_field bytes k 6;
  c = record_field bytes k 7;
}

-- Record k where it stands in its chain, after the record `before`.
abbrev pub link_of : List ℕ → ℕ → ℕ → Link
link_of bytes before k = record { before = before; line = k; kind = kind_of (record_field bytes k 1); next = next_record bytes k }

-- A record with number k as the line that it is.
abbrev pub as_line : Record → ℕ → Line
as_line l k = record {
  number = k;
  thread = l.thread;
  kind = l.kind;
  guard = l.guard;
  target = l.target;
  op = l.op;
  a = l.a;
  b = l.b;
  c = l.c;
}
