-- All rows of a list of constraints hold.
-- Assumes nothing.
use Rattle.std.specs.Prelude.{◌≡◌, true, List, [], ◌∷◌}
use Rattle.model.specs.CaseFile.{Case}
use Rattle.model.specs.Assignment.{Assignment}
use Rattle.model.specs.Table.{Row}
use Rattle.model.specs.Holds.{holds}

-- Every row holds of the assignment.
abbrev pub AllHold : Case → Assignment → List Row → Type 0
AllHold case α [] = Unit
AllHold case α (w ∷ ws) = (holds case α w ≡ true) × AllHold case α ws
