-- What is noted for each line, by record number, from the numbers of a table.
-- Assumes nothing.
use Rattle.std.specs.Prelude.{◌≡◌, ℕ, zero, suc, ◌+◌, ◌*◌, cond, List, eqb, length, get_or, set, take}
use Rattle.model.specs.CaseFile.{Case}
use Rattle.model.specs.Table.{table, numbers_of}

-- A table of a case as the encoder has written it into a slice, so many rows from its start.
pub record HasTable (case : Case) (xs : List ℕ) (count : ℕ) : Type 0 where
  pub rows : count ≡ length (table case)
  pub numbers : take (length (numbers_of (table case))) xs ≡ numbers_of (table case)

-- A row of the kind in question has something to note for its line; other rows have nothing.
unfoldable pub noted : ℕ → ℕ → ℕ → ℕ → List ℕ → List ℕ
noted which kind line number notes = cond (eqb kind which) (set notes line number) notes

-- Row j of these numbers is noted, with the number at this place of the row, and so many rows from row j on.
unfoldable pub noted_row : ℕ → ℕ → List ℕ → ℕ → List ℕ → List ℕ
noted_row which place xs j notes = noted which (get_or xs (6 * j) 0) (get_or xs (6 * j + 1) 0) (get_or xs (6 * j + place) 0) notes

unfoldable pub noted_from : ℕ → ℕ → List ℕ → ℕ → ℕ → List ℕ → List ℕ
noted_from which place xs j zero notes = notes
noted_from which place xs j (suc many) notes = noted_from which place xs (suc j) many (noted_row which place xs j notes)
