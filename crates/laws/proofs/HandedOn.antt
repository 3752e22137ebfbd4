-- The lines of an accepted case are taken one by one, and the copies at each are those of the table.
-- Assumes nothing. Met again in delivered's Delivered.
use Rattle.std.specs.Prelude.{Ok}
use mathlib.Core.Path.{◌≡◌, refl, sym, subst, ◌∙◌}
use Prim.Native.Nat.{ℕ}
use mathlib.Core.List.{List, [], ◌∷◌, ◌++◌, reverse}
use native.Mathlib.Omega.{arith}
use borrow.Author.Tests.{le-leb}
use Rattle.model.specs.Limits.{most_globals, most_mutexes, most_records}
use Rattle.model.specs.Lists.{numbers_from}
use Rattle.model.specs.CaseFile.{Line, records, global_count, mutex_count, line_of, case_of, lines_of}
use Rattle.model.specs.Line.{guard_name, operand_a, operand_b, target_name}
use Rattle.model.specs.Copies.{copy_of, held_copy, take_line, held_after}
use Rattle.model.specs.Taking.{taken, taken_into, copies_at}
use Rattle.laws.specs.RecordNumber.{RecordNumber}
use Rattle.laws.specs.Accepted.{Accepted}
use Rattle.laws.specs.Order.{AllLines}
use Rattle.laws.specs.HandedOn.{fields_of, HandedOn, ForEveryLine}
use Rattle.laws.proofs.Accepted.{accepted_of}
use Rattle.laws.proofs.Lines.{thread_lines_by}
use Rattle.laws.proofs.ForwardWalk.{one_more_line, for_any_lines_lem}

-- A line of thread t is one of the records.
record IsRecord (bytes : List ℕ) (t : ℕ) (l : Line) : Type 0 where
  number : RecordNumber (records bytes) l.number
  line : l ≡ line_of bytes t l.number

one_of_all : (P : Line → Type 0) (front : List Line) (l : Line) (rest : List Line) → AllLines P (front ++ (l ∷ rest)) → P l
one_of_all P [] l rest all = all.0
one_of_all P (m ∷ front) l rest all = one_of_all P front l rest all.1

module _ (bytes : List ℕ) (ok : Accepted bytes) where
  abbrev G : ℕ
  G = global_count bytes

  thread_records : (t : ℕ) → AllLines (IsRecord bytes t) (lines_of (case_of bytes) t)
  thread_records t =
      thread_lines_by bytes ok t (AllLines (IsRecord bytes t)) tt (λ k ls low high all. (record { number = record { some = low; low = high }; line = refl }, all))

  -- What is handed on is taken, whatever is held.
  taken_record : (k : ℕ) (held : List ℕ) → RecordNumber (records bytes) k
      → taken G (mutex_count bytes) k (fields_of bytes k) held ≡ Ok (copies_at G held (line_of bytes 0 k))
  unfolding taken numbers_from
  taken_record k held n =
      rw (
        le-leb G most_globals ok.few_globals,
        le-leb (mutex_count bytes) most_mutexes ok.few_mutexes,
        le-leb 1 k (omega (arith, n.some)),
        le-leb k most_records (omega (arith, n.low, ok.few_records)),
        ok.rules k n.some n.low,
      )

  taken_leaves : (k : ℕ) (held : List ℕ) → RecordNumber (records bytes) k
      → taken_into G (mutex_count bytes) k (fields_of bytes k) held ≡ take_line G held (line_of bytes 0 k)
  unfolding taken_into numbers_from
  taken_leaves k held n = rw (taken_record k held n)

  handed_on : (t : ℕ) (front : List Line) (k : ℕ) → RecordNumber (records bytes) k → HandedOn bytes front (line_of bytes t k)
  unfolding guard_name
  handed_on t front k n =
      let l = line_of bytes t k in
      record {
        guard = _;
        a = _;
        b = _;
        target = _;
        reply = taken_record k (held_after G front) n;
        four = rw (← copy (guard_name l), ← copy (operand_a l), ← copy (operand_b l), ← copy (target_name G l));
        after = taken_leaves k (held_after G front) n ∙ sym (one_more_line G front l);
      }
    where
      copy : (name : ℕ) → held_copy (held_after G front) name ≡ copy_of G name (reverse front)
      copy name = (for_any_lines_lem G front).copy name

pub every_line_lem : ForEveryLine
every_line_lem bytes accepted t front l rest e =
    let ok = accepted_of bytes accepted in
    let one = one_of_all (IsRecord bytes t) front l rest (subst (AllLines (IsRecord bytes t)) e (thread_records bytes ok t)) in
    subst (HandedOn bytes front) (sym one.line) (handed_on bytes ok t front l.number one.number)
