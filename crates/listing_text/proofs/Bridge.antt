-- The text of the encoder's answer is the listing of `model`, and no listing is longer than `most_listing_bytes`.
-- Assumes nothing. Met in the proof of `listing_text`, and where a program lends a text that is never too short.
use Rattle.std.specs.Prelude.{Result, Ok, Err}
use mathlib.Core.Path.{◌≡◌, refl, sym, ap, ◌∙◌}
use Prim.Native.Nat.{ℕ, zero, suc, ◌+◌, ◌*◌, ◌≤◌, ◌<◌}
use mathlib.Core.Bool.{Bool, true, false}
use mathlib.Core.List.{List, [], ◌∷◌, ◌++◌}
use native.Mathlib.Omega.{arith}
use native.Mathlib.Nat.{suc-add}
use borrow.Author.Tests.{le-leb, lt-leb, leb-true, leb-false}
use lib.Dec.{leb}
use lib.ListN.{length, length-append}
use Rattle.model.specs.Limits.{most_table_numbers, most_listing_bytes}
use Rattle.model.specs.CaseFile.{case_of}
use Rattle.model.specs.Accept.{verdict}
use Rattle.model.specs.Assignment.{variables}
use Rattle.model.specs.Table.{Row, table, numbers_of}
use Rattle.model.specs.Answers.{encoded, encoded_into, after_answer}
use Rattle.model.specs.Listing.{numbers_line, row_line, row_lines, listing_text, listed, listed_into, listed_numbers}
use Rattle.model.specs.declared.Refusal.{Refusal}
use Rattle.model.specs.declared.Refusal.TheVariants.{Short}
use Rattle.model.specs.Refusals.{Verdict, refusal_number, refusal_place}
use Rattle.model.specs.declared.TableSize.{TableSize}
use Rattle.laws.specs.Written.{numbers_at, Put}
use Rattle.laws.proofs.OnCase.{on_accepted, on_refused}
use Rattle.laws.proofs.Views.{LeView, within, beyond, le_view}
use Rattle.laws.proofs.Accepted.{accepted_of}
use Rattle.laws.proofs.Writing.{numbers_from_start, put_size}
use Rattle.laws.proofs.Sizes.{table_rows}
use Rattle.encoder.proofs.WholeTable.{table_fits, case_refused, table_written}
use Rattle.listing_text.specs.Text.{six_at, six_lines, row_count, text_of, WholeText}
use Rattle.listing_text.proofs.Rows.{line_size}
use Rattle.listing_text.proofs.Answer.{lines_size}

-- The numbers of a table, six at a time, are its rows.
six_lines_shift : (x : ℕ) (xs : List ℕ) (from many : ℕ) → six_lines (x ∷ xs) (suc from) many ≡ six_lines xs from many
unfolding six_lines
six_lines_shift x xs from zero = refl
six_lines_shift x xs from (suc many) =
    rw (suc-add from 1, suc-add from 2, suc-add from 3, suc-add from 4, suc-add from 5, suc-add from 6)
    (ap (λ (text : List ℕ). numbers_line (six_at xs from) ++ text) (six_lines_shift x xs (from + 6) many))

rows_listed : (rows : List Row) (rest : List ℕ) → six_lines (numbers_of rows ++ rest) 0 (length rows) ≡ row_lines rows
unfolding six_lines numbers_of row_lines
rows_listed [] rest = refl
rows_listed (w ∷ ws) rest =
    ap (λ (text : List ℕ). row_line w ++ text) (
    six_lines_shift w.kind (w.one ∷ (w.two ∷ (w.three ∷ (w.four ∷ (w.five ∷ after))))) 5 (length ws)
    ∙ six_lines_shift w.one (w.two ∷ (w.three ∷ (w.four ∷ (w.five ∷ after)))) 4 (length ws)
    ∙ six_lines_shift w.two (w.three ∷ (w.four ∷ (w.five ∷ after))) 3 (length ws)
    ∙ six_lines_shift w.three (w.four ∷ (w.five ∷ after)) 2 (length ws)
    ∙ six_lines_shift w.four (w.five ∷ after) 1 (length ws) ∙ six_lines_shift w.five after 0 (length ws)
    ∙ rows_listed ws rest
    )
  where
    after : List ℕ
    after = numbers_of ws ++ rest

rows_size_lem : (rows : List Row) → length (row_lines rows) ≤ 36 * length rows
rows_size_lem rows = rw (← rows_listed rows []) (lines_size (numbers_of rows ++ []) 0 (length rows))

-- The listing by the verdict.
module _ (bytes : List ℕ) where
  listing_accepted : verdict bytes ≡ Ok tt → listing_text bytes ≡ numbers_line (length (table (case_of bytes)) ∷ (variables (case_of bytes) ∷ [])) ++ row_lines (table (case_of bytes))
  unfolding listing_text
  listing_accepted e = on_accepted _ _ _ e

  listing_refused : (e : Refusal) → verdict bytes ≡ Err e → listing_text bytes ≡ numbers_line (refusal_number e ∷ (refusal_place e ∷ []))
  unfolding listing_text
  listing_refused e is = on_refused _ _ _ e is

  pub text_fits : length (listing_text bytes) ≤ most_listing_bytes
  text_fits = go (verdict bytes) refl
    where
      go : (v : Verdict) → verdict bytes ≡ v → length (listing_text bytes) ≤ most_listing_bytes
      go (Ok tt) e =
          let first = length (table (case_of bytes)) ∷ (variables (case_of bytes) ∷ []) in
          omega (
            arith,
            ap length (listing_accepted e),
            length-append (numbers_line first) (row_lines (table (case_of bytes))),
            line_size first,
            rows_size_lem (table (case_of bytes)),
            table_rows bytes (accepted_of bytes e),
          )
      go (Err e) is = omega (arith, ap length (listing_refused e is), line_size (refusal_number e ∷ (refusal_place e ∷ [])))

-- The encoder's answer, with room for every table.
module _ (bytes : List ℕ) (room : ℕ) (large : room ≡ most_table_numbers) where
  -- The rows that it says it has written are in its slice.
  pub rows_fit : (r : Result TableSize Refusal) → r ≡ encoded bytes room → 6 * row_count r ≤ room
  rows_fit r er = go (verdict bytes) refl
    where
      go : (v : Verdict) → verdict bytes ≡ v → 6 * row_count r ≤ room
      go (Ok tt) e = rw (er, table_fits bytes room large e) (omega (arith, table_rows bytes (accepted_of bytes e)))
      go (Err e) is = rw (er, case_refused bytes room large e is) (omega arith)

module _ (bytes slice : List ℕ) (large : length slice ≡ most_table_numbers) where
  pub answer_text : (r : Result TableSize Refusal) (x : List ℕ) → r ≡ encoded bytes (length slice) → x ≡ encoded_into bytes slice → text_of r x ≡ listing_text bytes
  unfolding text_of
  answer_text r x er ex = go (verdict bytes) refl
    where
      go : (v : Verdict) → verdict bytes ≡ v → text_of r x ≡ listing_text bytes
      go (Ok tt) e =
          rw (er, table_fits bytes (length slice) large e, ex, table_written bytes slice large e, listing_accepted bytes e)
          (ap (λ (text : List ℕ). numbers_line (length (table (case_of bytes)) ∷ (variables (case_of bytes) ∷ [])) ++ text) (rows_listed (table (case_of bytes)) _))
      go (Err e) is = rw (er, case_refused bytes (length slice) large e is, listing_refused bytes e is)

-- The call's answer and its slice, from the text's length.
module _ (bytes : List ℕ) (room : ℕ) where
  answer_short : room < length (listing_text bytes) → listed bytes room ≡ Err Short
  unfolding listed
  answer_short h = rw (lt-leb (length (listing_text bytes)) room h)

  answer_long : length (listing_text bytes) ≤ room → listed bytes room ≡ Ok (length (listing_text bytes))
  unfolding listed
  answer_long h = rw (le-leb (length (listing_text bytes)) room h)

  -- what the answer says of the text's length
  pub length_told : (listed_numbers (listed bytes room)).first ≤ most_listing_bytes
  unfolding listed
  length_told = go (le_view (length (listing_text bytes)) room)
    where
      go : LeView (length (listing_text bytes)) room → (listed_numbers (listed bytes room)).first ≤ most_listing_bytes
      go (within h q) = rw q (text_fits bytes)
      go (beyond h q) = rw q (omega arith)

  -- a text of this length is never refused
  pub never_refused : most_listing_bytes ≤ room → listed bytes room ≡ Ok (length (listing_text bytes))
  never_refused h = answer_long (omega (arith, text_fits bytes))

-- from whether the text fits
module _ (bytes slice text : List ℕ) (same : text ≡ listing_text bytes) (fits : Bool) (told : fits ≡ leb (length text) (length slice)) where
  pub too_short : fits ≡ false → (Err Short ≡ listed bytes (length slice)) × (slice ≡ listed_into bytes slice)
  unfolding listed_into
  too_short no_room =
      let answer = sym (answer_short bytes (length slice) (omega (arith, leb-false (length text) (length slice) (sym told ∙ no_room), ap length same))) in
      (answer, ap (λ (q : Result ℕ Refusal). after_answer q (listing_text bytes) slice) answer)

  pub long_enough :
      fits ≡ true → {x : List ℕ} {size : ℕ} → Put text slice 0 x size → (Ok size ≡ listed bytes (length slice)) × (x ≡ listed_into bytes slice)
  unfolding listed_into
  long_enough has_room put =
      let room : length (listing_text bytes) ≤ length slice = omega (arith, leb-true (length text) (length slice) (sym told ∙ has_room), ap length same) in
      let answer = sym (answer_long bytes (length slice) room) in (
        ap Ok (put_size put ∙ ap length same) ∙ answer,
        put.slice ∙ ap (numbers_at slice 0) same ∙ numbers_from_start slice (listing_text bytes) (omega arith)
            ∙ ap (λ (q : Result ℕ Refusal). after_answer q (listing_text bytes) slice) answer,
      )

-- for a caller whose text every listing fits
pub no_refusal : (bytes : List ℕ) (room : ℕ) (r : Result ℕ Refusal) → r ≡ listed bytes room → most_listing_bytes ≤ room → (e : Refusal) → r ≡ Err e → ⊥
no_refusal bytes room r er h e is = let z : ◌≡◌ {A = ℕ} 0 1 = cc (never_refused bytes room h) in omega arith

pub whole_text :
    (bytes slice x : List ℕ) (r : Result ℕ Refusal) (size : ℕ) → r ≡ listed bytes (length slice) → most_listing_bytes ≤ length slice → r ≡ Ok size → x ≡ listed_into bytes slice →
    WholeText bytes slice x size
unfolding listed_into
whole_text bytes slice x r size er h e ex =
    let long = never_refused bytes (length slice) h in
    record { size = cc; text = ex ∙ ap (λ (q : Result ℕ Refusal). after_answer q (listing_text bytes) slice) long }
