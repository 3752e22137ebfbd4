-- How many globals and how many items a case has, as the code holds them.
-- Assumes nothing.
use Rattle.std.specs.Prelude.{◌≡◌, ℕ, List}
use Rattle.model.specs.CaseFile.{global_count, case_of, item_count}
use Rattle.line.specs.declared.Counts.{Counts}

-- Those of this case.
pub record HasCounts (bytes : List ℕ) (counts : Counts) : Type 0 where
  pub globals : counts.globals ≡ global_count bytes
  pub items : counts.items ≡ item_count (case_of bytes)
