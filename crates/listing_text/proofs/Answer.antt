-- The text of the encoder's answer, by its cases, and how long it is. Met in the proofs of `write_text` and `fits`, and in
-- Bridge.
-- Assumes nothing.
use Rattle.std.specs.Prelude.{Result, Ok, Err}
use mathlib.Core.Path.{◌≡◌, sym}
use Prim.Native.Nat.{ℕ, zero, suc, ◌+◌, ◌*◌, ◌≤◌}
use mathlib.Core.Bool.{true}
use mathlib.Core.List.{List, [], ◌∷◌}
use native.Mathlib.Omega.{arith}
use borrow.Author.Tests.{le-leb}
use lib.Dec.{leb}
use lib.ListN.{length, length-append}
use Rattle.model.specs.Limits.{most_listing_bytes}
use Rattle.model.specs.Listing.{numbers_line}
use Rattle.model.specs.declared.Refusal.{Refusal}
use Rattle.model.specs.Refusals.{refusal_number, refusal_place}
use Rattle.model.specs.declared.TableSize.{TableSize}
use Rattle.laws.specs.Written.{Put}
use Rattle.laws.proofs.Writing.{put_then}
use Rattle.listing_text.specs.Text.{six_at, six_lines, text_of, TableAnswered, TextRoom}
use Rattle.listing_text.proofs.Rows.{line_size}

pub rows_have_room :
    {answer : Result TableSize Refusal} {size : TableSize} {at : ℕ} {xs d a : List ℕ} → answer ≡ Ok size → TableAnswered answer xs
    → Put (numbers_line (size.constraints ∷ (size.variables ∷ []))) d 0 a at → TextRoom (6 * size.constraints) xs (at + 36 * size.constraints)
rows_have_room {size = size} {xs = xs} e v put =
    let some : 6 * size.constraints ≤ length xs = rw e at v.inside in
    record { inside = some; room = omega (arith, line_size (size.constraints ∷ (size.variables ∷ []))) }

pub table_text :
    {answer : Result TableSize Refusal} {size : TableSize} {at end : ℕ} (xs : List ℕ) {d a x : List ℕ} → answer ≡ Ok size
    → Put (numbers_line (size.constraints ∷ (size.variables ∷ []))) d 0 a at → Put (six_lines xs 0 size.constraints) a at x end → Put (text_of answer xs) d 0 x end
unfolding text_of
table_text xs e counts rows = rw e (put_then counts rows)

pub refusal_text :
    {answer : Result TableSize Refusal} {why : Refusal} {number place end : ℕ} (xs : List ℕ) {d x : List ℕ} → answer ≡ Err why → number ≡ refusal_number why
    → place ≡ refusal_place why → Put (numbers_line (number ∷ (place ∷ []))) d 0 x end → Put (text_of answer xs) d 0 x end
unfolding text_of
refusal_text xs e is_number is_place put = rw e (rw (is_number, is_place) at put)

-- No text is longer than the longest.
pub lines_size : (xs : List ℕ) (from many : ℕ) → length (six_lines xs from many) ≤ 36 * many
unfolding six_lines
lines_size xs from zero = omega arith
lines_size xs from (suc many) =
    omega (arith, length-append (numbers_line (six_at xs from)) (six_lines xs (from + 6) many), line_size (six_at xs from), lines_size xs (from + 6) many)

text_size : (answer : Result TableSize Refusal) (xs : List ℕ) → TableAnswered answer xs → length (text_of answer xs) ≤ most_listing_bytes
unfolding text_of
text_size (Ok size) xs v =
    omega (
      arith,
      length-append (numbers_line (size.constraints ∷ (size.variables ∷ []))) (six_lines xs 0 size.constraints),
      line_size (size.constraints ∷ (size.variables ∷ [])),
      lines_size xs 0 size.constraints,
    )
text_size (Err e) xs v = omega (arith, line_size (refusal_number e ∷ (refusal_place e ∷ [])))

pub largest_room_fits : (answer : Result TableSize Refusal) (xs : List ℕ) (room : ℕ) → TableAnswered answer xs → most_listing_bytes ≤ room → true ≡ leb (length (text_of answer xs)) room
largest_room_fits answer xs room v large = sym (le-leb (length (text_of answer xs)) room (omega (arith, text_size answer xs v)))
