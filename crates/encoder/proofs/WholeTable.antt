-- The encoder's answer and its slice where there is room for every table: it refuses only what the case is refused for.
-- Assumes nothing. Met again where a text is written from the table: in listing_text's Bridge and smt_text's Answer.
use Rattle.std.specs.Prelude.{Result, Ok, Err}
use mathlib.Core.Path.{◌≡◌, ap}
use Prim.Native.Nat.{ℕ}
use mathlib.Core.List.{List, ◌++◌}
use native.Mathlib.Omega.{arith}
use borrow.Author.Tests.{le-leb}
use lib.ListN.{length, drop}
use Rattle.model.specs.Limits.{most_table_numbers}
use Rattle.model.specs.Lists.{written_over}
use Rattle.model.specs.CaseFile.{case_of}
use Rattle.model.specs.Accept.{verdict}
use Rattle.model.specs.Assignment.{variables}
use Rattle.model.specs.Table.{table, numbers_of}
use Rattle.model.specs.Answers.{encoded, after_answer, encoded_into}
use Rattle.model.specs.declared.Refusal.{Refusal}
use Rattle.model.specs.declared.TableSize.{TableSize}
use Rattle.laws.proofs.OnCase.{on_accepted, on_refused}
use Rattle.laws.proofs.Accepted.{accepted_of}
use Rattle.laws.proofs.Sizes.{table_numbers_lem}

module _ (bytes : List ℕ) (room : ℕ) (large : room ≡ most_table_numbers) where
  pub table_fits : verdict bytes ≡ Ok tt → encoded bytes room ≡ Ok (record { constraints = length (table (case_of bytes)); variables = variables (case_of bytes) })
  unfolding encoded
  table_fits e = rw (on_accepted _ _ _ e, le-leb (length (numbers_of (table (case_of bytes)))) room (omega (arith, table_numbers_lem bytes (accepted_of bytes e))))

  pub case_refused : (e : Refusal) → verdict bytes ≡ Err e → encoded bytes room ≡ Err e
  unfolding encoded
  case_refused e is = on_refused _ _ _ e is

module _ (bytes slice : List ℕ) (large : length slice ≡ most_table_numbers) where
  pub table_written : verdict bytes ≡ Ok tt → encoded_into bytes slice ≡ numbers_of (table (case_of bytes)) ++ drop (length (numbers_of (table (case_of bytes)))) slice
  unfolding encoded_into written_over
  table_written e = ap (λ (q : Result TableSize Refusal). after_answer q (numbers_of (table (case_of bytes))) slice) (table_fits bytes (length slice) large e)
