-- What asking the rules of a record needs.
-- Assumes nothing.
use Rattle.std.specs.Prelude.{◌≡◌, ℕ, List}
use Rattle.model.specs.CaseFile.{global_count, mutex_count}
use Rattle.case_file.specs.Present.{HasRecord}

-- Record k is there, and the case has so many globals and mutexes.
pub record RuleReady (bytes : List ℕ) (k G M : ℕ) : Type 0 where
  pub there : HasRecord bytes k
  pub globals : G ≡ global_count bytes
  pub mutexes : M ≡ mutex_count bytes
