-- How large an accepted case is at the most, and its table, an assignment, a schedule and the items; these sizes in numbers; and
-- that an output slice of such a size is never refused with 10. All is proved in proofs/Sizes.antt.
-- Assumes nothing.
use Rattle.std.specs.Prelude.{◌≡◌, ◌≢◌, ℕ, ◌≤◌, List, length}
use Rattle.model.specs.Limits.{most_case_bytes, most_items, most_variables, most_schedule_numbers, most_table_numbers, most_listing_bytes}
use Rattle.model.specs.CaseFile.{case_of, item_count}
use Rattle.model.specs.Assignment.{variables}
use Rattle.model.specs.Table.{table, numbers_of}
use Rattle.model.specs.Schedule.{schedule_size}
use Rattle.model.specs.Answers.{encoded, encoded_numbers, decoded, decoded_numbers, replayed, replayed_numbers, filled, filled_numbers}

pub record Sizes (bytes : List ℕ) : Type 0 where
  pub case_bytes : length bytes ≤ most_case_bytes
  pub table_numbers_lem : length (numbers_of (table (case_of bytes))) ≤ most_table_numbers
  pub assignment_numbers : variables (case_of bytes) ≤ most_variables
  pub schedule_numbers : schedule_size (case_of bytes) ≤ most_schedule_numbers
  pub item_numbers_lem : item_count (case_of bytes) ≤ most_items

-- The numbers that the header for C and the binding for Rust have.
pub record LargestSizes : Type 0 where
  pub case_bytes : most_case_bytes ≡ 4128
  pub table_numbers_lem : most_table_numbers ≡ 8742
  pub assignment_numbers : most_variables ≡ 692
  pub schedule_numbers : most_schedule_numbers ≡ 272
  pub item_numbers_lem : most_items ≡ 12
  pub listing_bytes : most_listing_bytes ≡ 52464

-- Whatever the bytes are, and whatever assignment or schedule comes with them.
pub record NeverTooShort (bytes : List ℕ) : Type 0 where
  pub table_never_short : (room : ℕ) → most_table_numbers ≤ room → (encoded_numbers (encoded bytes room)).refusal ≢ 10
  pub schedule_never_short : (xs : List ℕ) (room : ℕ) → most_schedule_numbers ≤ room → (decoded_numbers (decoded bytes xs room)).refusal ≢ 10
  pub items_never_short : (schedule : List ℕ) (room : ℕ) → most_items ≤ room → (replayed_numbers (replayed bytes schedule room)).refusal ≢ 10
  pub assignment_never_short : (schedule : List ℕ) (room : ℕ) → most_variables ≤ room → (filled_numbers (filled bytes schedule room)).refusal ≢ 10
