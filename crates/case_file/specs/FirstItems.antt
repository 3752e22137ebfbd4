-- The items where a run starts, in an array for the most items.
-- Assumes nothing.
use Rattle.std.specs.Prelude.{ℕ, ◌-◌, List, ◌++◌, replicate}
use Rattle.model.specs.Limits.{most_items}
use Rattle.model.specs.Lists.{numbers_from}
use Rattle.model.specs.CaseFile.{initial_value}

-- The globals' initial values, so many of them, and zeros.
unfoldable pub first_items : List ℕ → ℕ → List ℕ
first_items bytes many = numbers_from (initial_value bytes) 0 many ++ replicate (most_items - many) 0
