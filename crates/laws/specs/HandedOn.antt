-- Three: the lines of an accepted case as a builder hands them on, one by one, front to back.
-- Assumes nothing.
use Rattle.std.specs.Prelude.{◌≡◌, ℕ, List, [], ◌∷◌, ◌++◌, reverse, Ok}
use Rattle.model.specs.Lists.{numbers_from}
use Rattle.model.specs.CaseFile.{Line, global_count, mutex_count, record_field, case_of, lines_of}
use Rattle.model.specs.Copies.{held_after}
use Rattle.model.specs.Table.{row, value_row}
use Rattle.model.specs.Taking.{taken, taken_into}
use Rattle.model.specs.Accept.{verdict}

-- Record k of a case by itself: its eight fields.
abbrev pub fields_of : List ℕ → ℕ → List ℕ
fields_of bytes k = numbers_from (record_field bytes k) 0 8

-- A line after these, which are held: it is taken, the copies are those of its 4 in the table, and then these lines and it are held.
pub record HandedOn (bytes : List ℕ) (front : List Line) (l : Line) : Type 0 where
  pub guard : ℕ
  pub a : ℕ
  pub b : ℕ
  pub target : ℕ
  pub reply : taken (global_count bytes) (mutex_count bytes) l.number (fields_of bytes l.number) (held_after (global_count bytes) front)
      ≡ Ok (record { guard = guard; a = a; b = b; target = target })
  pub four : value_row (case_of bytes) (reverse front) l ≡ row 4 l.number guard a b target
  pub after : taken_into (global_count bytes) (mutex_count bytes) l.number (fields_of bytes l.number) (held_after (global_count bytes) front)
      ≡ held_after (global_count bytes) (front ++ (l ∷ []))

-- Every line of every thread, after the lines before it.
abbrev pub ForEveryLine : Type 0
ForEveryLine =
    (bytes : List ℕ) → verdict bytes ≡ Ok tt → (t : ℕ) (front : List Line) (l : Line) (rest : List Line)
    → lines_of (case_of bytes) t ≡ front ++ (l ∷ rest) → HandedOn bytes front l
