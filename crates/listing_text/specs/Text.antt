-- The listing's text as the code writes it: from the encoder's answer and the numbers of the table. That this is the text of
-- `model` is proved in proofs/Bridge.antt.
-- Assumes nothing.
use Rattle.std.specs.Prelude.{◌≡◌, ℕ, zero, suc, ◌+◌, ◌*◌, ◌≤◌, List, [], ◌∷◌, ◌++◌, length, get_or, Result, Ok, Err}
use Rattle.model.specs.Limits.{most_table_numbers, most_listing_bytes}
use Rattle.model.specs.Lists.{written_over}
use Rattle.model.specs.Listing.{decimal, numbers_line, listing_text}
use Rattle.model.specs.declared.Refusal.{Refusal}
use Rattle.model.specs.Refusals.{refusal_number, refusal_place}
use Rattle.model.specs.declared.TableSize.{TableSize}

-- A number and the byte that ends it.
unfoldable pub ended : ℕ → ℕ → List ℕ
ended x end = decimal x ++ (end ∷ [])

-- The six numbers of a row, from a place of the table on, and the lines of so many rows.
abbrev pub six_at : List ℕ → ℕ → List ℕ
six_at xs from =
    get_or xs from 0 ∷ (get_or xs (from + 1) 0 ∷ (get_or xs (from + 2) 0 ∷ (get_or xs (from + 3) 0 ∷ (get_or xs (from + 4) 0 ∷ (get_or xs (from + 5) 0 ∷ [])))))

unfoldable pub six_lines : List ℕ → ℕ → ℕ → List ℕ
six_lines xs from zero = []
six_lines xs from (suc many) = numbers_line (six_at xs from) ++ six_lines xs (from + 6) many

-- How many rows the encoder says that it has written, and the text of its answer.
abbrev pub row_count : Result TableSize Refusal → ℕ
row_count (Ok size) = size.constraints
row_count (Err e) = 0

unfoldable pub text_of : Result TableSize Refusal → List ℕ → List ℕ
text_of (Ok size) xs = numbers_line (size.constraints ∷ (size.variables ∷ [])) ++ six_lines xs 0 size.constraints
text_of (Err e) xs = numbers_line (refusal_number e ∷ (refusal_place e ∷ []))

-- The rows of the answer are in the table, which is no larger than any table.
pub record TableAnswered (answer : Result TableSize Refusal) (xs : List ℕ) : Type 0 where
  pub inside : 6 * row_count answer ≤ length xs
  pub few : length xs ≤ most_table_numbers

-- So many numbers are there to be put, and their text ends within the longest listing.
pub record TextRoom (many : ℕ) (xs : List ℕ) (end : ℕ) : Type 0 where
  pub inside : many ≤ length xs
  pub room : end ≤ most_listing_bytes

-- The whole listing from the slice's start: r is how many bytes it has.
pub record WholeText (bytes before after : List ℕ) (r : ℕ) : Type 0 where
  pub size : r ≡ length (listing_text bytes)
  pub text : after ≡ written_over (listing_text bytes) before
