-- Three: "Case builders now hand on a thread's lines front to back as they are made." What the call that takes one line answers, and
-- what it leaves in what is held for the line's thread.
-- Assumes nothing.
use Rattle.std.specs.Prelude.{ℕ, Bool, ◌&&◌, List, leb, get_or, Result, Ok, Err}
use Rattle.model.specs.Limits.{most_records}
use Rattle.model.specs.Lists.{unless}
use Rattle.model.specs.CaseFile.{Line, line_with}
use Rattle.model.specs.declared.Refusal.{Refusal}
use Rattle.model.specs.declared.Refusal.TheVariants.{Counts, Links, Fields}
use Rattle.model.specs.Refusals.{refusal_number, refusal_place}
use Rattle.model.specs.Accept.{counts_ok, fields_ok}
use Rattle.model.specs.Line.{guard_name, operand_a, operand_b, target_name}
use Rattle.model.specs.Copies.{held_copy, take_line}
use Rattle.model.specs.declared.Copies.{Copies}
use Rattle.model.specs.declared.CopyNumbers.{CopyNumbers}

-- A record by itself: "next, kind, guard, target, op, a, b, c". Of which thread it is a line makes no difference.
abbrev pub handed_line : ℕ → List ℕ → Line
handed_line number fields = line_with (λ j. get_or fields j 0) 0 number

-- The copies of a line's names by what is held before it: "guard copy, a copy, b copy, target copy".
abbrev pub copies_at : ℕ → List ℕ → Line → Copies
copies_at G held l = record {
  guard = held_copy held (guard_name l);
  a = held_copy held (operand_a l);
  b = held_copy held (operand_b l);
  target = held_copy held (target_name G l);
}

-- A number that a record can have.
abbrev pub number_ok : ℕ → Bool
number_ok number = leb 1 number && leb number most_records

-- "4. G is over 8 or M is over 4."; "6. A first or next number is over R", where none can be the record's number; "9. A record breaks
-- the rules of its fields", and the place is this record.
unfoldable pub taken : ℕ → ℕ → ℕ → List ℕ → List ℕ → Result Copies Refusal
taken G M number fields held =
    unless (counts_ok G M) (Err Counts)
    (unless (number_ok number) (Err Links)
    (unless (fields_ok (get_or fields 1 0) G M (handed_line number fields)) (Err (Fields number))
    (Ok (copies_at G held (handed_line number fields)))))

-- "Each .. alters no buffer"
abbrev pub after_taken : Result Copies Refusal → List ℕ → List ℕ → List ℕ
after_taken (Ok copies) result held = result
after_taken (Err e) result held = held

unfoldable pub taken_into : ℕ → ℕ → ℕ → List ℕ → List ℕ → List ℕ
taken_into G M number fields held = after_taken (taken G M number fields held) (take_line G held (handed_line number fields)) held

-- The refusal (0: none) and its place, or the four copies.
abbrev pub taken_numbers : Result Copies Refusal → CopyNumbers
taken_numbers (Ok copies) = record { refusal = 0; place = 0; guard = copies.guard; a = copies.a; b = copies.b; target = copies.target }
taken_numbers (Err e) = record { refusal = refusal_number e; place = refusal_place e; guard = 0; a = 0; b = 0; target = 0 }
