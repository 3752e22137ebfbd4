-- Document 01, "Case A": the text that the listing program prints, byte by byte, and the call that writes it.
-- Assumes nothing.
use Rattle.std.specs.Prelude.{ℕ, zero, suc, ◌+◌, ◌/◌, ◌%◌, cond, List, [], ◌∷◌, ◌++◌, ltb, leb, length, Result, Ok, Err}
use Rattle.model.specs.Lists.{unless}
use Rattle.model.specs.CaseFile.{case_of}
use Rattle.model.specs.Accept.{verdict}
use Rattle.model.specs.Assignment.{variables}
use Rattle.model.specs.Table.{Row, table}
use Rattle.model.specs.declared.Refusal.{Refusal}
use Rattle.model.specs.declared.Refusal.TheVariants.{Short}
use Rattle.model.specs.Refusals.{refusal_number, refusal_place}
use Rattle.model.specs.Answers.{on_case, after_answer, refused_numbers, answer_numbers}
use Rattle.model.specs.declared.Numbers.{Numbers}

-- The ASCII codes of a digit, of a blank and of a line feed.
abbrev pub digit : ℕ → ℕ
digit x = 48 + x

abbrev pub blank : ℕ
blank = 32

abbrev pub line_feed : ℕ
line_feed = 10

-- A number in base ten without leading zeros: its last digits, so many at most.
unfoldable pub digits_of : ℕ → ℕ → List ℕ
digits_of zero x = []
digits_of (suc most) x = cond (ltb x 10) (digit x ∷ []) (digits_of most (x / 10) ++ (digit (x % 10) ∷ []))

-- A number below 65,536: it has at most five digits.
unfoldable pub decimal : ℕ → List ℕ
decimal x = digits_of 5 x

-- Numbers on one line, a blank between them; no numbers have no line.
unfoldable pub numbers_line : List ℕ → List ℕ
numbers_line [] = []
numbers_line (x ∷ []) = decimal x ++ (line_feed ∷ [])
numbers_line (x ∷ (y ∷ ys)) = decimal x ++ (blank ∷ numbers_line (y ∷ ys))

-- "one constraint a line"
abbrev pub row_line : Row → List ℕ
row_line w = numbers_line (w.kind ∷ (w.one ∷ (w.two ∷ (w.three ∷ (w.four ∷ (w.five ∷ []))))))

unfoldable pub row_lines : List Row → List ℕ
row_lines [] = []
row_lines (w ∷ ws) = row_line w ++ row_lines ws

-- "The listing program .. prints the count of constraints and of variables, then one constraint a line"; "For a refused case
-- it prints the number and place on one line."
unfoldable pub listing_text : List ℕ → List ℕ
listing_text bytes =
    on_case (verdict bytes) (λ e. numbers_line (refusal_number e ∷ (refusal_place e ∷ [])))
    (numbers_line (length (table (case_of bytes)) ∷ (variables (case_of bytes) ∷ [])) ++ row_lines (table (case_of bytes)))

-- The call. A refused case is no refusal of this call: its line is the text. "10. An output slice is shorter than what would
-- be written."
unfoldable pub listed : List ℕ → ℕ → Result ℕ Refusal
listed bytes room = unless (leb (length (listing_text bytes)) room) (Err Short) (Ok (length (listing_text bytes)))

unfoldable pub listed_into : List ℕ → List ℕ → List ℕ
listed_into bytes slice = after_answer (listed bytes (length slice)) (listing_text bytes) slice

-- The document's number and values for each case of the answer.
abbrev pub listed_numbers : Result ℕ Refusal → Numbers
listed_numbers (Ok bytes) = answer_numbers 1 bytes 0
listed_numbers (Err e) = refused_numbers (refusal_number e) (refusal_place e)
