-- The numbers of an assignment that belong to a record, and those that a block starts from.
-- Assumes nothing.
use Rattle.std.specs.Prelude.{◌≡◌, ℕ, ◌+◌, ◌-◌, ◌*◌, ◌≤◌, ◌<◌, List, length, get_or}
use Rattle.model.specs.Limits.{most_switches, most_items, most_variables}
use Rattle.model.specs.CaseFile.{case_of, item_count}
use Rattle.model.specs.Assignment.{assignment_of}
use Rattle.model.specs.Copies.{value_before}
use Rattle.laws.specs.Accepted.{Accepted}

-- "Record k has variable 2(k − 1), its block number, and 2(k − 1) + 1, its value."
abbrev pub record_block : List ℕ → ℕ → ℕ
record_block xs k = get_or xs (2 * (k - 1)) 0

abbrev pub record_value : List ℕ → ℕ → ℕ
record_value xs k = get_or xs (2 * (k - 1) + 1) 0

-- An array for the most items, where the first so many have these values.
pub record Filled (value : ℕ → ℕ) (count : ℕ) (items : List ℕ) : Type 0 where
  pub wide : length items ≡ most_items
  pub filled : (g : ℕ) → g < count → get_or items g 0 ≡ value g

-- The values of the items where the run starts, and those at a place of an assignment.
abbrev pub initial_item : List ℕ → ℕ → ℕ
initial_item bytes g = get_or (case_of bytes).initial g 0

abbrev pub number_from : List ℕ → ℕ → ℕ → ℕ
number_from xs place g = get_or xs (place + g) 0

-- The items' values where block i starts.
abbrev pub StartOf : List ℕ → List ℕ → ℕ → List ℕ → Type 0
StartOf bytes xs i items = Filled (value_before (case_of bytes) (assignment_of (case_of bytes) xs) i) (item_count (case_of bytes)) items

-- A place from which an assignment has numbers for the most items; and one from which so many are read, there or not.
pub record HasItems (xs : List ℕ) (place : ℕ) : Type 0 where
  pub low : place ≤ most_variables
  pub inside : place + most_items ≤ length xs

pub record ItemsFrom (place count : ℕ) : Type 0 where
  pub low : place ≤ most_variables
  pub few : count ≤ most_items
